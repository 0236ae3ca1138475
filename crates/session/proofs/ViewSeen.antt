-- What the table of refusals looks at, through the view.
use Prim.Native.Nat.{ℕ, zero, suc, ◌<◌}
use mathlib.Core.Path.{◌≡◌, refl, ap, sym, ◌∙◌}
use native.Mathlib.Omega.{arith}
use lib.ListN.{length, length-map}
use Rattle.marks.specs.History.{incarnation_of, HistoryView}
use Rattle.marks.proofs.Histories.{roomy-length}
use Rattle.rules.specs.Layout.{Layout}
use Rattle.rules.specs.State.{State, transactor_at, own_history}
use Rattle.rules.specs.Rules.{receipt_rolls_back, receipt_unrelated, seen}
use Rattle.rules.specs.Internal.Well.{WellFormed}
use Rattle.session.specs.Provenance.{status_number}
use Rattle.session.proofs.Model.{status_of, view_message, view}
use Rattle.session.proofs.ViewState.{at-transactor, own_view, own-roomy, view-find, view-missing}
use Rattle.session.proofs.Seen.{seen_of}
use Rattle.session.proofs.ViewRules.{dropped_at, rolled_back_at}

status-number : (n : ℕ) → n < 4 → status_number (status_of n) ≡ n
unfolding status_of
status-number zero h = refl
status-number (suc zero) h = refl
status-number (suc (suc zero)) h = refl
status-number (suc (suc (suc n))) h = omega arith

module _ {y : Layout} {s : State} (well : WellFormed y s) where
  pub seen-status : (t : ℕ) → (transactor_at s t).status ≡ status_number (status_of (transactor_at s t).status)
  seen-status = at-transactor well (λ t x. x.status ≡ status_number (status_of x.status))
      (λ t h. sym (status-number (transactor_at s t).status (well.packable.transactors t h).status))
      (λ t. sym (status-number 0 (omega arith)))

  pub seen-checkpoints : (t : ℕ) → (own_history t (transactor_at s t)).count ≡ length (incarnation_of (own_history t (transactor_at s t))).checkpoints
  seen-checkpoints = at-transactor well (λ t x. (own_history t x).count ≡ length (incarnation_of (own_history t x)).checkpoints)
      (λ t h. sym (roomy-length (own-roomy well t h)))
      (λ t. refl)

  pub view-seen : seen y s ≡ seen_of (view s) (dropped_at y s) (rolled_back_at y s) (receipt_unrelated y s)
  unfolding seen seen_of view receipt_rolls_back dropped_at rolled_back_at
  view-seen = λ i. record {
    limits = s.limits;
    opened = s.opened;
    next = s.next;
    waiting = sym (length-map s.messages view_message) i;
    status = λ t. seen-status t i;
    stable = λ t. (sym (own_view well t) i).stable;
    checkpoints = λ t. (seen-checkpoints t ∙ ap (λ (m : HistoryView). length m.incarnation.checkpoints) (sym (own_view well t))) i;
    incarnation = λ t. (sym (own_view well t) i).incarnation.number;
    missing = λ n. sym (view-missing s n) i;
    addressee = λ n. (sym (view-find s n) i).addressee;
    rolls = receipt_rolls_back y s;
    unrelated = receipt_unrelated y s;
  }
