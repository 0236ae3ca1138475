-- Kinds 5 to 10 on an image: the bytes of one take change.
use Prim.Native.Nat.{ℕ, ◌≤◌, ◌<◌}
use mathlib.Core.Bool.{false}
use mathlib.Core.Path.{◌≡◌, sym, ◌∙◌}
use mathlib.Core.List.{List}
use native.Mathlib.Omega.{arith}
use borrow.Author.Tests.{le-leb, lt-leb}
use Rattle.rules.specs.Layout.{base}
use Rattle.rules.specs.State.{Transactor, State, transactor_at}
use Rattle.rules.specs.declared.Step.{Step}
use Rattle.rules.specs.declared.Reply.{Reply}
use Rattle.rules.specs.Step.{read, fail}
use Rattle.rules.specs.Refusals.{malformed}
use Rattle.rules.specs.Rules.{Effect, local_by, refusal, answer, apply_local}
use Rattle.rules.specs.Pack.{unpack_transactor, unpack}
use Rattle.rules.specs.Internal.Good.{Good}
use Rattle.transactor.specs.Internal.Effects.{Acts, act_by}
use Rattle.steps.specs.Internal.Stepped.{Stepped}
use Rattle.transactor.proofs.Lent.{lent, back, unpack-lent, lent-after, lent_same}
use Rattle.rules.proofs.ByKind.Refused.{local_in, refuses}
use Rattle.steps.proofs.Effects.{Judged, judged-refused, judged-applied, act-judged}
use Rattle.rules.proofs.ByKind.Applied.{applies}
use Rattle.steps.proofs.Stepped.{stepped-refused, stepped-applied}

module _ (img : List ℕ) (p : Step) (good : Good img) (formed : malformed p ≡ false) (low : read ≤ p.kind) (high : p.kind ≤ fail) where
  abbrev s : State
  s = unpack base img

  abbrev t : ℕ
  t = p.transactor

  pub local-unopened : (r : Reply) → s.opened ≤ t → r ≡ answer 21 0 0 0 → Stepped img p r img
  local-unopened r h = stepped-refused img p r good 21 ((refuses base s p formed).local low high ∙ rw (le-leb s.opened t h)) (λ z. omega arith)

  module _ (h : t < s.opened) (o v : ℕ) (bs : List ℕ) (acts : Acts (act_by base p.kind t p.value (unpack_transactor base (lent base img t))) o v bs) where
    within : t < base.transactors
    within = omega (arith, good.well.opened, good.well.limits.transactors-high)

    abbrev x : Transactor
    x = transactor_at s t

    abbrev effect : Effect
    effect = act_by base p.kind t p.value x

    acted : Acts effect o v bs
    acted = rw (unpack-lent base img t within) at acts

    left : refusal base s p ≡ local_in base p.kind t x
    left = (refuses base s p formed).local low high ∙ rw (lt-leb s.opened t h)

    judged : Judged (local_in base p.kind t x) x (local_by base p.kind t p.value x) effect
    judged = act-judged base p.kind t p.value x

    pub local-refused : (r : Reply) → 16 ≤ o → r ≡ answer o 0 0 0 → Stepped img p r (back base img t bs)
    local-refused r b q =
        let e = judged-refused judged (omega (arith, acted.outcome)) in
        rw (lent_same img good t within effect acted e.1) (stepped-refused img p r good o (left ∙ e.0 ∙ sym acted.outcome) (λ z. omega arith) q)

    pub local-done : o < 16 → Stepped img p (answer o t 0 v) (back base img t bs)
    unfolding apply_local
    local-done b =
        let e = judged-applied judged (omega (arith, acted.outcome)) in
        stepped-applied img p (answer o t 0 v) (back base img t bs) (apply_local base s p) (left ∙ e.0) ((applies base s p).local low high)
        (rw (acted.outcome, acted.value, e.1))
        (lent-after img good t within effect acted ∙ rw e.1)
