-- `figure` is right because the bits of its parts are those that carry the figure.
use Rattle.words.proofs.Carrying.{long_figure}
use Rattle.words.proofs.reading.figure.Goals as goal

pub returns : goal.returns
returns c = long_figure c.args.w c.requires
