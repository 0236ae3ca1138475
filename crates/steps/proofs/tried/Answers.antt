-- Past the test for 20 each kind is asked as its function wants it; the others than letter, receive, send and lose leave the number of waiting messages as it was.
use Rattle.std.proofs.Common.{◌≤◌, refl, sym, ap, ◌∙◌, arith}
use Rattle.rules.specs.Numbers.{kind_number}
use Rattle.rules.proofs.ByKind.Refused.{kind-formed}
use Rattle.steps.proofs.Counting.{by-root, by-new, by-local, by_sign, still-counted}
use Rattle.steps.proofs.Images.{stepped-malformed}
use Rattle.steps.proofs.tried.Goals as goal

pub returns-then-malformed : goal.returns-then-malformed
returns-then-malformed c = (stepped-malformed _ _ _ c.requires.0 (sym c.malformed.ensures ∙ c.if-malformed.true) refl, c.requires.2)

pub returns-in_default : goal.returns-in_default
returns-in_default c = absurd (omega (arith, kind-formed _ (sym c.malformed.ensures ∙ c.if-malformed.false), c.in_default.ensures))

pub returns-in-Root : goal.returns-in-Root
returns-in-Root c = (c.root.ensures, still-counted c.requires.0 c.requires.1 (by-root (sym c.in-Ok.ensures ∙ ap kind_number c.in-Root.is)) c.root.ensures c.requires.2)

pub returns-in-New : goal.returns-in-New
returns-in-New c = (c.new.ensures, still-counted c.requires.0 c.requires.1 (by-new (sym c.in-Ok.ensures ∙ ap kind_number c.in-New.is)) c.new.ensures c.requires.2)

pub returns-in-Sign : goal.returns-in-Sign
returns-in-Sign c = (c.sign.ensures, still-counted c.requires.0 c.requires.1 (by_sign (sym c.in-Ok.ensures ∙ ap kind_number c.in-Sign.is)) c.sign.ensures c.requires.2)

pub returns-in-Read : goal.returns-in-Read
returns-in-Read c =
    let low : 5 ≤ c.args.p.kind = grind arith in
    let high : c.args.p.kind ≤ 10 = grind arith in
    (c.local.ensures, still-counted c.requires.0 c.requires.1 (by-local low high) c.local.ensures c.requires.2)
