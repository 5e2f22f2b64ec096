-- `may_add` judges the store, then the version, then whether there is room.
use mathlib.Core.Path.{sym, ap, ◌∙◌}
use borrow.Author.Tests.{lt-ltb, le-ltb}
use Rattle.settings.specs.Versions.{follows}
use Rattle.settings.specs.Store.{may_add}
use Rattle.settings.specs.Says.{says_verdict}
use Rattle.settings.proofs.Handed.{handed}
use Rattle.settings.proofs.Counts.{at_least, at_most}
use Rattle.settings.proofs.judging.may_add.Goals as goal

pub returns-in_err-judge : goal.returns-in_err-judge
unfolding may_add
returns-in_err-judge c =
    let own = sym c.in_err-judge.ensures in
    rw own (ap says_verdict (handed c.from_residual.result c.from_residual.ensures.1))

pub last_place-requires : goal.last_place-requires
last_place-requires c =
    let own = sym c.in_ok-judge.ensures in
    (at_least c.args.store own, at_most c.args.store own)

pub returns-in_err-follows : goal.returns-in_err-follows
unfolding may_add
returns-in_err-follows c =
    let own = sym c.in_ok-judge.ensures in
    let version = ap (λ n. follows n c.args.version) (sym c.last_place.ensures) ∙ sym c.in_err-follows.ensures in
    rw (own, version) (ap says_verdict (handed c.from_residual-in_err-follows.result c.from_residual-in_err-follows.ensures.1))

pub returns-then-store-lt32 : goal.returns-then-store-lt32
unfolding may_add
returns-then-store-lt32 c =
    let own = sym c.in_ok-judge.ensures in
    let version = ap (λ n. follows n c.args.version) (sym c.last_place.ensures) ∙ sym c.in_ok-follows.ensures in
    rw (own, version, lt-ltb _ _ c.if-store-lt32.true)

pub returns : goal.returns
unfolding may_add
returns c =
    let own = sym c.in_ok-judge.ensures in
    let version = ap (λ n. follows n c.args.version) (sym c.last_place.ensures) ∙ sym c.in_ok-follows.ensures in
    rw (own, version, le-ltb _ _ c.if-store-lt32.false)
