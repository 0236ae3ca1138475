-- Only a signing changes which lives of a take are signed; so does a write, where the take's behaviour map has a mark of itself that no session has.
use Prim.Native.Nat.{ℕ, zero, suc, ◌<◌}
use mathlib.Core.Bool.{Bool, true, false}
use mathlib.Core.Path.{◌≡◌, refl, sym, ap, ◌∙◌, subst}
use mathlib.Core.List.{List, [], ◌∷◌, ◌++◌}
use mathlib.Core.Logic.{inr, ⊎_elim}
use mathlib.Core.Option.{Option, none, some}
use native.Mathlib.Omega.{arith}
use lib.Dec.{eqb}
use lib.ListN.{length, take}
use borrow.Author.Tests.{eqb-true, eqb-false, leb-false}
use Rattle.octets.specs.Bytes.{◌and◌, ◌or◌}
use Rattle.octets.proofs.Tests.{pick-view, and-false, or-of}
use Rattle.marks.specs.declared.History.{History}
use Rattle.marks.specs.Incarnation.{Incarnation, same_list, begins_with, checkpointed_in}
use Rattle.marks.specs.History.{incarnation_of, initial_history, stabilized, rolled_back}
use Rattle.maps.specs.declared.DependenceMap.{DependenceMap}
use Rattle.maps.specs.Map.{history_at, Sized}
use Rattle.maps.proofs.Map.{history-singleton, history-with_entry}
use Rattle.maps.proofs.News.{own-informed}
use Rattle.maps.proofs.Packed.{map_ok-sized}
use Rattle.rules.specs.Layout.{Layout}
use Rattle.rules.specs.Status.{idle, busy, annihilated}
use Rattle.rules.specs.State.{Transactor, Message, State, no_transactor, transactor_at, message_at, own_history, live, place_of}
use Rattle.rules.specs.Step.{Step, letter, read, write, freeze, finish, fall, sign}
use Rattle.rules.specs.Rules.{Effect, join, carried, rollback, read_by, write_by, freeze_by, finish_by, fall_by, fail_by, local_by, message_superseded, receiver_superseded, receive_by, no_dependences, opening, seen, refusal, step_of}
use Rattle.rules.specs.Internal.Well.{TransactorFormed, WellFormed}
use Rattle.rules.specs.Refusals.{acts, malformed}
use Rattle.rules.specs.Independent.{opens, signed_in, KeepsList}
use Rattle.rules.proofs.Keep.Accepted.{Accepted, accepted, one-unopened, transactor-opened, transactor-there, receiver-idle}
use Rattle.rules.proofs.Form.Transactor.{live-true}
use Rattle.rules.proofs.ByKind.Refused.{otherwise}
use Rattle.rules.proofs.Independent.Lists.{overlay-none, overlay-some, single}
use Rattle.rules.proofs.Independent.Effects.{Delta, act, doing, Kind, is-root, is-letter, is-receive, is-new, is-send, is-local, is-lose, is-sign, kind-of, present-receive}
use Rattle.rules.proofs.Independent.Steps.{formed-accepted, decided, accepted-state, refused-state}

abbrev signed_by : ℕ → Transactor → Incarnation → Bool
signed_by t x a = live x and checkpointed_in a (incarnation_of (own_history t x))

-- ---- marks

take_none : (n : ℕ) → take {A = ℕ} n [] ≡ []
take_none zero = refl
take_none (suc n) = refl

same_none : (xs : List ℕ) (n : ℕ) → same_list (xs ++ (n ∷ [])) [] ≡ false
unfolding same_list
same_none [] n = refl
same_none (x ∷ xs) n = refl

-- a take never signed has no signed life
pub none-signed : (a : Incarnation) (h : History) → h.count ≡ 0 → checkpointed_in a (incarnation_of h) ≡ false
unfolding checkpointed_in begins_with
none-signed a h e =
    let xs : List ℕ = a.checkpoints ++ (a.number ∷ []) in
    ap (λ (n : ℕ). same_list xs (take (length xs) (take n h.checkpoints))) e
    ∙ ap (same_list xs) (take_none (length xs)) ∙ same_none a.checkpoints a.number

-- whether a life is signed depends on the list of the present mark alone
pub list-signed : (a b c : Incarnation) → b.checkpoints ≡ c.checkpoints → checkpointed_in a b ≡ checkpointed_in a c
unfolding checkpointed_in
list-signed a b c e = ap (λ (l : List ℕ). begins_with l (a.checkpoints ++ (a.number ∷ []))) e

-- ---- takes

module _ (y : Layout) (t : ℕ) (below : t < y.transactors) (x : Transactor) (a : Incarnation) where
  rollback-signed : live x ≡ true → signed_by t (rollback y t x).transactor a ≡ signed_by t x a
  unfolding rollback
  rollback-signed l = pick-view (λ (e : Effect). signed_by t e.transactor a ≡ signed_by t x a) (eqb (own_history t x).count 0) _ _
      (λ e. sym (ap (λ (c : Bool). live x and c) (none-signed a (own_history t x) (eqb-true _ 0 e)) ∙ and-false (live x)))
      (λ e. ap (λ (h : History). checkpointed_in a (incarnation_of h)) (history-singleton y.places y.transactors t (rolled_back (own_history t x)) below)
      ∙ list-signed a (incarnation_of (rolled_back (own_history t x))) (incarnation_of (own_history t x)) refl
      ∙ sym (ap (λ (c : Bool). c and checkpointed_in a (incarnation_of (own_history t x))) l))

  -- one that takes over no other list of its own from its behaviour map
  local-signed : (k v : ℕ) → live x ≡ true → Sized y.transactors x.state
      → (k ≡ write → (incarnation_of (history_at (join y x.behaviour x.state) t)).checkpoints ≡ (incarnation_of (own_history t x)).checkpoints)
      → signed_by t (local_by y k t v x).transactor a ≡ signed_by t x a
  unfolding local_by read_by write_by freeze_by finish_by fall_by fail_by
  local-signed k v l z lists =
      let P : Effect → Type 0 = λ e. signed_by t e.transactor a ≡ signed_by t x a in
      let stays : checkpointed_in a (incarnation_of (own_history t x)) ≡ signed_by t x a = sym (ap (λ (c : Bool). c and checkpointed_in a (incarnation_of (own_history t x))) l) in
      let frozen : Bool = (own_history t x).stable in
      pick-view P (eqb k read) _ _ (λ e. refl) λ e0.
      pick-view P (eqb k write) _ _ (λ e. pick-view P frozen _ _ (λ f. refl) (λ f. ap (λ (c : Bool). live x and c) (list-signed a _ _ (lists (eqb-true k write e))))) λ e1.
      pick-view P (eqb k freeze) _ _ (λ e. ap (λ (h : History). live x and checkpointed_in a (incarnation_of h)) (history-with_entry z t (stabilized (own_history t x)) below)) λ e2.
      pick-view P (eqb k finish) _ _ (λ e. stays) λ e3.
      pick-view P (eqb k fall) _ _ (λ e. pick-view P frozen _ _ (λ f. stays) (λ f. rollback-signed l)) λ e4.
      pick-view P frozen _ _ (λ f. refl) (λ f. rollback-signed l)

  receive-signed : (m : Message) → live x ≡ true → signed_by t (receive_by y t x m).transactor a ≡ signed_by t x a
  unfolding receive_by
  receive-signed m l =
      let P : Effect → Type 0 = λ e. signed_by t e.transactor a ≡ signed_by t x a in
      pick-view P (message_superseded y x m) _ _ (λ e. refl) λ e0.
      pick-view P (receiver_superseded y x m) _ _ (λ e. rollback-signed l) λ e1.
      ap (λ (h : History). checkpointed_in a (incarnation_of h)) (own-informed y.transactors t x.state m.dependences below)
      ∙ sym (ap (λ (c : Bool). c and checkpointed_in a (incarnation_of (own_history t x))) l)

-- ---- steps

data Signs (s : State) (t : ℕ) : Option Transactor → Type 0 where
  kept : Signs s t none
  alike : {x : Transactor} → ((a : Incarnation) → signed_by t x a ≡ signed_by t (transactor_at s t) a) → Signs s t (some x)

single-signs : (s : State) (t : ℕ) (x : Transactor) → ((a : Incarnation) → signed_by t x a ≡ signed_by t (transactor_at s t) a) → (u : ℕ) → Signs s u (single t x u)
single-signs s t x f u = pick-view (Signs s u) (eqb u t) (some x) none (λ e. subst (λ (v : ℕ). Signs s v (some x)) (sym (eqb-true u t e)) (alike f)) (λ e. kept)

alive-live : {y : Layout} {c o t : ℕ} {x : Transactor} → TransactorFormed y c o t x → t < o → (x.status ≡ annihilated → ⊥) → live x ≡ true
alive-live (TransactorFormed.not_opened h) i n = absurd (omega arith)
alive-live (TransactorFormed.gone h) i n = absurd (n refl)
alive-live (TransactorFormed.alive h a) i n = live-true a.status

-- the take that is opened next is not live
unopened-dead : {y : Layout} {c o : ℕ} {x : Transactor} → TransactorFormed y c o o x → live x ≡ false
unopened-dead (TransactorFormed.not_opened h) = refl
unopened-dead (TransactorFormed.gone h) = absurd (omega arith)
unopened-dead (TransactorFormed.alive h a) = absurd (omega arith)

module _ (y : Layout) (s : State) (p : Step) (w : WellFormed y s) (z : refusal y s p ≡ 0) where
  ok : Accepted y (seen y s) p
  unfolding refusal
  ok = accepted y (seen y s) p z

  within-layout : (t : ℕ) → t < s.opened → t < y.transactors
  within-layout t h = omega (arith, w.opened, w.limits.transactors-high)

  -- of the take that a root or a new opens
  opened-signs : opens p.kind ≡ true → (v : ℕ) (m : DependenceMap) (a : Incarnation) → signed_by s.opened (opening y s.opened v m) a ≡ signed_by s.opened (transactor_at s s.opened) a
  unfolding seen
  opened-signs k v m a =
      let below : s.opened < y.transactors = omega (arith, one-unopened ok k, w.limits.transactors-high) in
      ap (λ (h : History). checkpointed_in a (incarnation_of h)) (history-singleton y.places y.transactors s.opened (initial_history y.places) below)
      ∙ none-signed a (initial_history y.places) refl
      ∙ sym (ap (λ (c : Bool). c and checkpointed_in a (incarnation_of (own_history s.opened (transactor_at s s.opened)))) (unopened-dead (w.transactors s.opened below)))

  -- the acting take of kinds 3 to 10 is live
  acting-live : acts p.kind ≡ true → (p.transactor < s.opened) × (live (transactor_at s p.transactor) ≡ true)
  unfolding seen
  acting-live k =
      let h : p.transactor < s.opened = transactor-opened ok (or-of (eqb p.kind letter) (acts p.kind) (inr k)) in
      (h, alive-live (w.transactors p.transactor (within-layout p.transactor h)) h (eqb-false _ annihilated (transactor-there ok k)))

  signs : (k : Kind p) → malformed p ≡ false → (p.kind ≡ sign → ⊥)
      → (p.kind ≡ write → KeepsList y p.transactor (transactor_at s p.transactor)) → (u : ℕ) → Signs s u ((doing y s p k).delta.takes u)
  unfolding doing seen
  signs (is-root e) formed n lists u = single-signs s s.opened _ (opened-signs (rw e) p.value (no_dependences y)) u
  signs (is-letter e) formed n lists u = kept
  signs (is-receive e) formed n lists u =
      let j : ℕ = place_of s p.message in
      let m : Message = message_at s j in
      let waits : j < length s.messages = leb-false _ j (present-receive y s p formed z e) in
      let h : m.addressee < s.opened = w.addressees j waits in
      let i : (transactor_at s m.addressee).status ≡ idle = receiver-idle ok (rw e) in
      let l : live (transactor_at s m.addressee) ≡ true = ap (λ (n : ℕ). eqb n idle or eqb n busy) i in
      single-signs s m.addressee _ (λ a. receive-signed y m.addressee (within-layout m.addressee h) (transactor_at s m.addressee) a m l) u
  signs (is-new e) formed n lists u =
      let m : DependenceMap = carried y p.transactor (transactor_at s p.transactor) in
      let child : Transactor = opening y s.opened p.value m in
      pick-view (Signs s u) (eqb u s.opened) _ _
      (λ f. subst (λ (v : ℕ). Signs s v (some child)) (sym (eqb-true u s.opened f)) (alike {x = child} (opened-signs (rw e) p.value m)))
      (λ f. single-signs s p.transactor _ (λ a. refl) u)
  signs (is-send e) formed n lists u = kept
  signs (is-local b c) formed n lists u =
      let k = otherwise p.kind b c in
      let r = acting-live (rw (k.from, k.upto)) in
      let below : p.transactor < y.transactors = within-layout p.transactor r.0 in
      single-signs s p.transactor _ (λ a. local-signed y p.transactor below (transactor_at s p.transactor) a p.kind p.value r.1 (map_ok-sized (w.packable.transactors p.transactor below).state) (λ e. (lists e).is)) u
  signs (is-lose e) formed n lists u = kept
  signs (is-sign e) formed n lists u = absurd (n e)

-- no step but a signing changes which lives are signed, if a write takes over no other list
pub signed-kept : (y : Layout) (s : State) (p : Step) → WellFormed y s → (p.kind ≡ sign → ⊥)
    → (refusal y s p ≡ 0 → p.kind ≡ write → KeepsList y p.transactor (transactor_at s p.transactor)) → (t : ℕ) (a : Incarnation) → signed_in (step_of y s p).state t a ≡ signed_in s t a
unfolding act transactor_at
signed-kept y s p w n lists t a = ⊎_elim
    (λ (z : refusal y s p ≡ 0).
    let f : malformed p ≡ false = formed-accepted y s p z in
    let k : Kind p = kind-of p f in
    ap (λ (x : State). signed_in x t a) (accepted-state y s p w.packable.many k z) ∙ go (doing y s p k).delta refl (signs y s p w z k f n (lists z) t))
    (λ (m : refusal y s p ≡ 0 → ⊥). ap (λ (x : State). signed_in x t a) (refused-state y s p w.packable.many m))
    (decided y s p)
  where
    go : (d : Delta) {o : Option Transactor} → d.takes t ≡ o → Signs s t o → signed_in (act d s) t a ≡ signed_in s t a
    go d e kept = ap (λ (v : Transactor). signed_by t v a) (overlay-none d.takes s.transactors t no_transactor e)
    go d e (alike {x} f) = ⊎_elim
        (λ (g : transactor_at (act d s) t ≡ x). ap (λ (v : Transactor). signed_by t v a) g ∙ f a)
        (λ (g : transactor_at (act d s) t ≡ transactor_at s t). ap (λ (v : Transactor). signed_by t v a) g)
        (overlay-some d.takes s.transactors t no_transactor x e)
