-- All heard frozen: each return of the query, and what its answer says.
use Prim.Native.Nat.{ℕ, ◌+◌, ◌<◌}
use mathlib.Core.Bool.{Bool, true, false}
use mathlib.Core.Path.{◌≡◌, sym, ap, ◌∙◌}
use mathlib.Core.List.{List}
use mathlib.Core.Logic.{◌↔◌, ◌≢◌}
use mathlib.Core.Option.{some}
use lib.Dec.{eqb}
use borrow.Author.Tests.{eq-eqb, ne_eqb, eqb-true}
use Rattle.octets.specs.Bytes.{◌and◌, Octets}
use Rattle.octets.proofs.Zero.{both}
use Rattle.marks.specs.History.{HistoryView}
use Rattle.maps.specs.Heard.{others_stable}
use Rattle.maps.specs.Packed.{map_in}
use Rattle.maps.specs.Internal.View.{map_view}
use Rattle.maps.proofs.Heard.{others-test}
use Rattle.maps.proofs.View.{within-ok}
use Rattle.rules.specs.Layout.{Layout, transactor_address, state_at, creation_at}
use Rattle.rules.specs.State.{State, transactor_at}
use Rattle.rules.specs.Pack.{unpack}
use Rattle.rules.specs.Calls.{query_refusal}
use Rattle.rules.specs.Heard.{all_heard_stable, heard_answer, Heard, in-state, in-creation}
use Rattle.rules.specs.Internal.Well.{TransactorOk}
use Rattle.rules.proofs.Pack.Loads.{read-state, read-creation}
use Rattle.rules.proofs.Form.State.{formed-state}
use Rattle.rules.proofs.Calls.Query.{query-accepted}

-- ---- the code's returns

module _ (y : Layout) (img : List ℕ) (t r : ℕ) (e : r ≡ query_refusal y img t) where
  pub heard-refused : (r ≡ 0 → ⊥) → (r ≡ query_refusal y img t) × (false ≡ heard_answer y img t)
  unfolding heard_answer
  heard-refused n = (e, rw (ne_eqb (query_refusal y img t) 0 (λ (z : query_refusal y img t ≡ 0). n (e ∙ z))))

  module _ (zero : r ≡ 0) (a : Bool) (first : a ≡ others_stable y.transactors t (map_in y.width y.places y.transactors img (transactor_address y t + state_at))) where
    below : t < y.transactors
    below = (query-accepted y img t (sym e ∙ zero)).below

    state-is : a ≡ others_stable y.transactors t (transactor_at (unpack y img) t).state
    state-is = first ∙ ap (others_stable y.transactors t) (sym (read-state y img t below))

    -- an entry of the state map is not frozen
    pub heard-state : a ≡ false → (r ≡ query_refusal y img t) × (false ≡ heard_answer y img t)
    unfolding heard_answer all_heard_stable
    heard-state f =
        let z : query_refusal y img t ≡ 0 = sym e ∙ zero in
        (e, rw (eq-eqb (query_refusal y img t) 0 z, sym state-is ∙ f))

    -- all of them are: the creation map decides
    pub heard-creation : a ≡ true → (b : Bool) → b ≡ others_stable y.transactors t (map_in y.width y.places y.transactors img (transactor_address y t + creation_at y))
        → (r ≡ query_refusal y img t) × (b ≡ heard_answer y img t)
    unfolding heard_answer all_heard_stable
    heard-creation f b second =
        let z : query_refusal y img t ≡ 0 = sym e ∙ zero in
        let g : b ≡ others_stable y.transactors t (transactor_at (unpack y img) t).creation = second ∙ ap (others_stable y.transactors t) (sym (read-creation y img t below)) in
        (e, rw (eq-eqb (query_refusal y img t) 0 z, sym state-is ∙ f) g)

-- ---- the answer

-- "yes exactly when every other entry of a live take's two maps is frozen"
pub heard-test : {y : Layout} (s : State) (t : ℕ) → TransactorOk y (transactor_at s t)
    → (all_heard_stable y t (transactor_at s t) ≡ true) ↔ ((u : ℕ) (h : HistoryView) → u ≢ t → Heard s t u h → h.stable ≡ true)
unfolding all_heard_stable
heard-test {y} s t ok = (to, of)
  where
    P : Bool
    P = others_stable y.transactors t (transactor_at s t).state

    Q : Bool
    Q = others_stable y.transactors t (transactor_at s t).creation

    on-state : (P ≡ true) ↔ ((u : ℕ) (h : HistoryView) → u ≢ t → map_view (transactor_at s t).state u ≡ some h → h.stable ≡ true)
    on-state = others-test y.transactors t (transactor_at s t).state (within-ok ok.state)

    on-creation : (Q ≡ true) ↔ ((u : ℕ) (h : HistoryView) → u ≢ t → map_view (transactor_at s t).creation u ≡ some h → h.stable ≡ true)
    on-creation = others-test y.transactors t (transactor_at s t).creation (within-ok ok.creation)

    to : P and Q ≡ true → (u : ℕ) (h : HistoryView) → u ≢ t → Heard s t u h → h.stable ≡ true
    to e u h n (in-state i) = on-state.0 (both P Q e).0 u h n i
    to e u h n (in-creation i) = on-creation.0 (both P Q e).1 u h n i

    of : ((u : ℕ) (h : HistoryView) → u ≢ t → Heard s t u h → h.stable ≡ true) → P and Q ≡ true
    of f = rw (on-state.1 (λ u h n i. f u h n (in-state i)), on-creation.1 (λ u h n i. f u h n (in-creation i)))

pub heard-exactly : (y : Layout) (img : List ℕ) (t : ℕ) → Octets img
    → (heard_answer y img t ≡ true) ↔ ((query_refusal y img t ≡ 0) × ((u : ℕ) (h : HistoryView) → u ≢ t → Heard (unpack y img) t u h → h.stable ≡ true))
unfolding heard_answer
heard-exactly y img t o = (
  λ e.
      let p = both (eqb (query_refusal y img t) 0) (all_heard_stable y t (transactor_at (unpack y img) t)) e in
      let z : query_refusal y img t ≡ 0 = eqb-true (query_refusal y img t) 0 p.0 in
      (z, (heard-test (unpack y img) t (ok z)).0 p.1),
  λ p. rw (eq-eqb (query_refusal y img t) 0 p.0, (heard-test (unpack y img) t (ok p.0)).1 p.1),
)
  where
    ok : query_refusal y img t ≡ 0 → TransactorOk y (transactor_at (unpack y img) t)
    ok z = let a = query-accepted y img t z in (formed-state y img a.long o a.formed).packable.transactors t a.below
