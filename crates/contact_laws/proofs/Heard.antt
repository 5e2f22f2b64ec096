-- What is sure to be heard holds.
-- Assumes nothing.
use Prim.Native.Nat.{ℕ, ◌+◌, ◌-◌, ◌≤◌}
use mathlib.Core.Path.{refl, sym, subst}
use mathlib.Core.Logic.{◌⊎◌, inl, inr}
use native.Mathlib.Omega.{arith}
use Rattle.balise_line.specs.Line.{OneBalise}
use Rattle.contact.specs.Contacts.{contacts_from, from_start}
use Rattle.contact_laws.specs.Zeroes.{zeroes_sent}
use Rattle.contact_laws.specs.Heard.{AllShort, NeverRead, SureToBeHeard}
use Rattle.contact_laws.proofs.Sound.{eight_in_one}
use Rattle.contact_laws.proofs.Over.{listened, cut_low, sole}
use Rattle.contact_laws.proofs.Row.{read_there}
use Rattle.contact_laws.proofs.Fair.{no_false}
use Rattle.contact_laws.proofs.Broken.{all_short}
use Rattle.contact_laws.proofs.Never.{never_read}
use Rattle.contact_laws.proofs.Either.{audible_or_broken}

some_eight : (o : OneBalise) → (8 ≤ zeroes_sent o 0 16) ⊎ (8 ≤ zeroes_sent o (0 + 32) 16) → (j : ℕ) × (8 ≤ zeroes_sent o j 16)
some_eight o (inl t) = (0, t)
some_eight o (inr t) = (0 + 32, t)

pub sure_to_be_heard : SureToBeHeard
sure_to_be_heard =
    record {
      one_contact = sole;
      is_read = λ o proper audible from to pass long fair w l.
          let cut = cut_low o in
          let c = sole o proper audible from to pass (omega arith) w l in (
            c.0,
            c.1,
            read_there o from to pass.taken (record { buffer_is = refl; proper = proper; audible = audible; clean = pass.clean; long = long; fair = fair }) pass.from_low pass.to_high c.0,
          );
      no_false = no_false;
      none_silent = λ o proper. some_eight o (eight_in_one o proper 0 refl);
      one_or_other = audible_or_broken;
      broken_short = λ o broken from to pass w l. subst (AllShort o) (sym (listened o.buffer from to w l)) (all_short o from to pass broken);
      broken_never = λ o proper broken from to pass fair w l.
          subst (NeverRead o) (sym (listened o.buffer from to w l))
          (never_read o proper from to pass fair (contacts_from o.buffer (from_start from (to - from))) (all_short o from to pass broken));
    }
