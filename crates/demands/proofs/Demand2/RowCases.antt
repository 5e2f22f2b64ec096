-- The rows in short and in long forms, and groups just outside, are judged as document 01 says: all
-- of them computed at once.
-- Assumes nothing.
use mathlib.Core.Path.{◌≡◌, refl, ◌∙◌}
use mathlib.Core.List.{List, [], ◌∷◌, map}
use Rattle.words.specs.Answer.{Outcome}
use Rattle.words.specs.Bits.{word}
use Rattle.words.specs.Plain.{is_check, covers, count, even, is_code, onwards, figure}
use Rattle.words.specs.Code.{other, exchanged, read_word}
use Rattle.telegram.specs.Telegram.{short_word, long_word, telegram}
use Rattle.group.specs.Balise.{balises, read_all}
use Rattle.group_rows.specs.Row.{fits, first, fit_row_meant, fit_rows}
use Rattle.group_rows.specs.Rows.{how_many, fit_in}
use Rattle.group.specs.Distance.{distance}
use Rattle.group.specs.Speed.{signal_speed, target_figure}
use Rattle.group_rows.specs.Fitting.{route_speed, fitting}
use Rattle.group.specs.declared.Message.{Message}
use Rattle.group.specs.Numbers.{number_of}
use Rattle.group.specs.Judge.{distance_of, signal_distance, judge_read, judge}
use Rattle.demands.specs.RowCases.{RowCase, group_of, present_cases, opposite_cases, outside_cases, AllJudged}

-- what the specification judges, and what must be judged
abbrev specified : RowCase → Outcome Message
specified c = judge (group_of c.balises)

abbrev wanted : RowCase → Outcome Message
wanted c = c.judged

-- Where these agree along a list, every case holds.
each : (cs : List RowCase) → map specified cs ≡ map wanted cs → AllJudged cs
each [] e = tt
each (c ∷ cs) e =
    let here : specified c ≡ wanted c = cc in
    let rest : map specified cs ≡ map wanted cs = cc in
    (λ r k. k.1 ∙ here, each cs rest)

pub present_judged : AllJudged present_cases
unfolding read_word is_code even count covers figure onwards is_check exchanged other word short_word long_word telegram balises read_all fits first fit_row_meant fit_rows how_many fit_in fitting distance signal_speed target_figure route_speed distance_of signal_distance number_of judge_read judge
present_judged = each present_cases refl

pub opposite_judged : AllJudged opposite_cases
unfolding read_word is_code even count covers figure onwards is_check exchanged other word short_word long_word telegram balises read_all fits first fit_row_meant fit_rows how_many fit_in fitting distance signal_speed target_figure route_speed distance_of signal_distance number_of judge_read judge
opposite_judged = each opposite_cases refl

pub outside_judged : AllJudged outside_cases
unfolding read_word is_code even count covers figure onwards is_check exchanged other word short_word long_word telegram balises read_all fits first fit_row_meant fit_rows how_many fit_in fitting distance signal_speed target_figure route_speed distance_of signal_distance number_of judge_read judge
outside_judged = each outside_cases refl
