-- Document 02, W12, on lists that recur from the left: the rule of specs/Thin.antt for a list of steps run from a state.
use Prim.Native.Nat.{ℕ}
use mathlib.Core.Bool.{Bool, false, not}
use mathlib.Core.List.{List, [], ◌∷◌}
use lib.Dec.{eqb}
use Rattle.octets.specs.Bytes.{pick, ◌and◌}
use Rattle.rules.specs.Layout.{Layout}
use Rattle.rules.specs.State.{State}
use Rattle.rules.specs.declared.Step.{Step}
use Rattle.rules.specs.declared.Reply.{Reply}
use Rattle.rules.specs.Step.{read, step_at}
use Rattle.rules.specs.Rules.{step_of}
use Rattle.rules.specs.Calls.{state_after}
use Rattle.thin.specs.Thin.{not_refused, touches, empties}

unfoldable pub final_state : Layout → State → List Step → State
final_state y s [] = s
final_state y s (p ∷ ps) = final_state y (step_of y s p).state ps

unfoldable pub replies_to : Layout → State → List Step → List Reply
replies_to y s [] = []
replies_to y s (p ∷ ps) = (step_of y s p).reply ∷ replies_to y (step_of y s p).state ps

-- the next step of the list that touches take t empties its map
unfoldable pub emptied_next : Layout → State → List Step → ℕ → Bool
emptied_next y s [] t = false
emptied_next y s (p ∷ ps) t =
    pick (touches p (step_of y s p).reply.outcome t) (empties p (step_of y s p).reply.outcome) (emptied_next y (step_of y s p).state ps t)

-- p is a read whose map is emptied unused: ps are the steps after it
unfoldable pub unused_next : Layout → State → Step → List Step → Bool
unused_next y s p ps = eqb p.kind read and emptied_next y (step_of y s p).state ps p.transactor

-- of each step: it is kept
unfoldable pub kept_of : Layout → State → List Step → List Bool
kept_of y s [] = []
kept_of y s (p ∷ ps) = (not_refused (step_of y s p).reply.outcome and not (unused_next y s p ps)) ∷ kept_of y (step_of y s p).state ps

-- those elements of a list for which it holds
unfoldable pub filtered : {A : Type 0} → List Bool → List A → List A
filtered [] xs = []
filtered (c ∷ cs) [] = []
filtered (c ∷ cs) (x ∷ xs) = pick c (x ∷ filtered cs xs) (filtered cs xs)

-- the reply to step i of a packed list
unfoldable pub reply_to : Layout → State → List ℕ → ℕ → Reply
reply_to y s b i = (step_of y (state_after y s b i) (step_at b i)).reply
