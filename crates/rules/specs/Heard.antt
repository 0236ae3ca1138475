-- Document 02, W4: "A new query, "all heard frozen", is yes exactly when every other entry of a live take's two maps is frozen."
use Rattle.std.specs.Prelude.{ℕ, Bool, ◌≡◌, List, eqb}
use Rattle.std.proofs.Math.Option.{some}
use Rattle.octets.specs.Bytes.{◌and◌}
use Rattle.marks.specs.History.{HistoryView}
use Rattle.maps.specs.Heard.{others_stable}
use Rattle.maps.specs.View.{map_view}
use Rattle.rules.specs.Layout.{Layout}
use Rattle.rules.specs.State.{State, Transactor, transactor_at}
use Rattle.rules.specs.Pack.{unpack}
use Rattle.rules.specs.Calls.{query_refusal}

-- every entry of take t's state and creation maps but its own is frozen
unfoldable pub all_heard_stable : Layout → ℕ → Transactor → Bool
all_heard_stable y t x = others_stable y.transactors t x.state and others_stable y.transactors t x.creation

-- "The query gives 16, 19, 21, 22 as offer does." Refused: no.
unfoldable pub heard_answer : Layout → List ℕ → ℕ → Bool
heard_answer y img t = eqb (query_refusal y img t) 0 and all_heard_stable y t (transactor_at (unpack y img) t)

-- ---- the same for theorems

-- the mark h of take u is an entry of take t's two maps
pub data Heard (s : State) (t u : ℕ) (h : HistoryView) : Type 0 where
  in-state : map_view (transactor_at s t).state u ≡ some h → Heard s t u h
  in-creation : map_view (transactor_at s t).creation u ≡ some h → Heard s t u h
