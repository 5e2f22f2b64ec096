-- The words of the guide, computed.
-- Assumes nothing.
use mathlib.Core.Path.{◌≡◌, refl}
use mathlib.Core.Bool.{true, false}
use mathlib.Core.List.{◌∷◌}
use Rattle.text.specs.Text.{codes, digits, decimal}
use Rattle.figures.specs.Figures.{all_digits_meant, continued, decimal as figures}
use Rattle.group.specs.declared.Number.{Number}
use Rattle.group.specs.declared.Told.{Told}
use Rattle.ride.specs.declared.Linking.{Linking}
use Rattle.ride.specs.State.{no_group, nothing_known, fresh_ride}
use Rattle.viewer_text.specs.Text.{place, group, linking, speed, figure, speeds, state}
use Rattle.viewer_text.specs.Finding.{small, stands_at, stands_before, has}
use Rattle.viewer_text.specs.Missing.{visible, no_line}
use Rattle.viewer_text.specs.Commands.{by, alone, followed, leading, ends_at, command_in, command}
use Rattle.viewer_text.specs.declared.commands.Command.{Command}

-- at the start
pub at_the_start : state 0 12 0 fresh_ride ≡ codes "0 of 12, kept 0\n  odometer 0\n  no group\n  no linking\n  main none, target none, number none\n"
unfolding state place group linking speed figure speeds decimal digits no_group nothing_known fresh_ride
at_the_start = refl

-- after a signal
pub after_a_signal : state 3 12 3 (record { odometer = 5000; group = no_group; known = record { linking = Linking.Set 4000 1000; main = Told.Kmh 130; target = Told.Kmh 80; number = Number.None } })
    ≡ codes "3 of 12, kept 3\n  odometer 5000\n  no group\n  linking 4000 from 1000\n  main 130, target 80, number none\n"
unfolding state place group linking speed figure speeds decimal digits no_group
after_a_signal = refl

pub letters : (command (codes "f") ≡ Command.Forward 1) × (command (codes "b 20") ≡ Command.Back 20) × (command (codes "g 1200") ≡ Command.Go 1199) × (command (codes "q") ≡ Command.Quit) × (command (codes "g 0") ≡ Command.Unknown)
unfolding command command_in followed leading ends_at small by alone figures all_digits_meant continued
letters = (refl, refl, refl, refl, refl)

-- blanks around a command, capitals and CR
pub loosely : (command (codes "  F 20 \r") ≡ Command.Forward 20) × (command (codes "Q\r") ≡ Command.Quit) × (command (codes " \r") ≡ Command.Again)
unfolding command command_in followed leading ends_at small by alone figures all_digits_meant continued
loosely = (refl, refl, refl)

-- blanks before a number, as many as one likes, but one at least
pub apart : (command (codes "f  3") ≡ Command.Forward 3) × (command (codes "p \t 600 ") ≡ Command.Place 600) × (command (codes "f3") ≡ Command.Unknown)
unfolding command command_in followed leading ends_at small by alone figures all_digits_meant continued
apart = (refl, refl, refl)

-- a word that would clear the screen
pub obeyed_by_none : no_line (27 ∷ codes "[2J") ≡ codes "no further line has ?[2J\n"
unfolding no_line visible
obeyed_by_none = refl

-- a word
pub finds : (command (codes "/fault") ≡ Command.Find 1 6) × (command (codes " /\r") ≡ Command.Find 2 2) × (has (codes "1000 fault 12: no row\n") (codes "FAULT") ≡ true) × (has (codes "1000 present line\n") (codes "fault") ≡ false)
unfolding command command_in leading ends_at small has stands_before stands_at
finds = (refl, refl, refl, refl)
