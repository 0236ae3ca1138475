-- The ledger's state as functions of a take's number, for the proof of demand 3: what each operation does to it, and the view
-- of a state as such functions.
use Prim.Native.Nat.{ℕ, zero, suc, ◌+◌}
use mathlib.Core.Bool.{Bool, true, false}
use mathlib.Core.List.{List, [], ◌∷◌, ◌++◌, map}
use mathlib.Core.Option.{some, get_or}
use lib.Dec.{eqb}
use Rattle.octets.specs.Bytes.{pick}
use Rattle.marks.specs.History.{HistoryView, initial_view, stabilized_view, rolled_back_view, checkpointed_view}
use Rattle.octets.specs.Table.{updated}
use Rattle.maps.specs.Internal.View.{MapView, map_view, empty_view, singleton_view, join_view}
use Rattle.rules.specs.Layout.{Limits}
use Rattle.rules.specs.State.{Transactor, Message, State, transactor_at}
use Rattle.session.specs.Provenance.{Status, unused, idle, busy, annihilated}
use Rattle.session.specs.Steps.{is_nil}

-- ---- states

pub record Node : Type 0 where
  pub status : Status
  pub state : MapView
  pub creation : MapView
  pub behaviour : MapView

pub record MessageView : Type 0 where
  pub number : ℕ
  pub addressee : ℕ
  pub dependences : MapView

pub record Ledger : Type 0 where
  pub limits : Limits
  pub opened : ℕ
  pub next : ℕ
  pub nodes : ℕ → Node
  pub messages : List MessageView

-- the own mark of take t
abbrev pub own : ℕ → Node → HistoryView
own t x = get_or (x.state t) initial_view

-- ---- operations

abbrev pub with_node : Ledger → ℕ → Node → Ledger
with_node l t x = record { limits = l.limits; opened = l.opened; next = l.next; nodes = updated l.nodes t x; messages = l.messages }

abbrev pub open_node : Ledger → Node → Ledger
open_node l x = record { limits = l.limits; opened = l.opened + 1; next = l.next; nodes = updated l.nodes l.opened x; messages = l.messages }

abbrev pub with_message_view : Ledger → ℕ → MapView → Ledger
with_message_view l to M = record { limits = l.limits; opened = l.opened; next = l.next + 1; nodes = l.nodes; messages = l.messages ++ (record { number = l.next; addressee = to; dependences = M } ∷ []) }

unfoldable pub remove_message : ℕ → List MessageView → List MessageView
remove_message n [] = []
remove_message n (q ∷ qs) = pick (eqb q.number n) qs (q ∷ remove_message n qs)

abbrev pub without_message_view : Ledger → ℕ → Ledger
without_message_view l n = record { limits = l.limits; opened = l.opened; next = l.next; nodes = l.nodes; messages = remove_message n l.messages }

unfoldable pub find_message : ℕ → List MessageView → MessageView
find_message n [] = record { number = 0; addressee = 0; dependences = empty_view }
find_message n (q ∷ qs) = pick (eqb q.number n) q (find_message n qs)

unfoldable pub missing_message : ℕ → List MessageView → Bool
missing_message n [] = true
missing_message n (q ∷ qs) = pick (eqb q.number n) false (missing_message n qs)

abbrev pub bare_node : Status → Node
bare_node status = record { status = status; state = empty_view; creation = empty_view; behaviour = empty_view }

abbrev pub anew_node : ℕ → HistoryView → Node
anew_node t m = record { status = idle; state = singleton_view t m; creation = empty_view; behaviour = empty_view }

abbrev pub read_node : Node → Node
read_node x = record { status = x.status; state = x.state; creation = x.creation; behaviour = join_view x.state x.behaviour }

abbrev pub write_node : Node → Node
write_node x = record { status = x.status; state = join_view x.behaviour x.state; creation = x.creation; behaviour = x.behaviour }

abbrev pub freeze_node : ℕ → Node → Node
freeze_node t x = record {
  status = x.status;
  state = updated x.state t (some (stabilized_view (own t x)));
  creation = x.creation;
  behaviour = x.behaviour;
}

abbrev pub finish_node : Node → Node
finish_node x = record { status = idle; state = x.state; creation = x.creation; behaviour = empty_view }

unfoldable pub rollback_node : ℕ → Node → Node
rollback_node t x =
    pick (is_nil (own t x).incarnation.checkpoints) (bare_node annihilated)
    (anew_node t (rolled_back_view (own t x)))

-- state and creation joined
abbrev pub known_map : Node → MapView
known_map x = join_view x.state x.creation

-- creation, behaviour and own mark joined
abbrev pub sent_map : ℕ → Node → MapView
sent_map t x = join_view (join_view x.creation x.behaviour) (singleton_view t (own t x))

-- news t M N: what take t makes of its map M where it receives the map N (document 02, W4)
abbrev pub News : Type 0
News = ℕ → MapView → MapView → MapView

abbrev pub busy_node : News → ℕ → Node → MapView → Node
busy_node w t x M = record { status = busy; state = w t x.state M; creation = w t x.creation M; behaviour = M }

abbrev pub child_node : ℕ → MapView → Node
child_node c M = record { status = idle; state = singleton_view c initial_view; creation = M; behaviour = empty_view }

abbrev pub opener_node : ℕ → Node → Node
opener_node c x = record { status = x.status; state = x.state; creation = x.creation; behaviour = join_view (singleton_view c initial_view) x.behaviour }

unfoldable pub checkpointed_nodes : (ℕ → Bool) → (ℕ → Node) → ℕ → Node
checkpointed_nodes v N t = pick (v t) (anew_node t (checkpointed_view (own t (N t)))) (N t)

abbrev pub sign_ledger : Ledger → (ℕ → Bool) → Ledger
sign_ledger l v = record { limits = l.limits; opened = l.opened; next = l.next; nodes = checkpointed_nodes v l.nodes; messages = l.messages }

-- ---- the view of a state

unfoldable pub status_of : ℕ → Status
status_of zero = unused
status_of (suc zero) = idle
status_of (suc (suc zero)) = busy
status_of (suc (suc (suc n))) = annihilated

abbrev pub view_node : Transactor → Node
view_node x = record { status = status_of x.status; state = map_view x.state; creation = map_view x.creation; behaviour = map_view x.behaviour }

abbrev pub view_message : Message → MessageView
view_message m = record { number = m.number; addressee = m.addressee; dependences = map_view m.dependences }

unfoldable pub view : State → Ledger
view s = record { limits = s.limits; opened = s.opened; next = s.next; nodes = λ t. view_node (transactor_at s t); messages = map view_message s.messages }
