-- A receipt judged: each return of the code.
use Prim.Native.Nat.{ℕ, ◌+◌, ◌≤◌, ◌<◌}
use mathlib.Core.Bool.{Bool, true, false, not}
use mathlib.Core.Path.{◌≡◌, refl, sym, ap, ◌∙◌}
use mathlib.Core.List.{List}
use mathlib.Core.Option.{Option, none, some}
use mathlib.Core.Logic.{⊎_elim}
use native.Mathlib.Omega.{arith}
use lib.ListN.{length}
use lib.Dec.{eqb, leb}
use borrow.Author.Tests.{eq-eqb, ne_eqb, eqb-true, le-leb, lt-leb, lt-ltb}
use Rattle.rules.proofs.Refused.{refused}
use Rattle.octets.specs.Bytes.{pick, ◌and◌}
use Rattle.octets.proofs.Chunks.{sides}
use Rattle.marks.specs.declared.History.{History}
use Rattle.maps.specs.declared.DependenceMap.{DependenceMap}
use Rattle.std.specs.Prelude.{Some, None, Option as RustOption}
use Rattle.maps.specs.Map.{first_superseded, any_unrelated, answer_of}
use Rattle.rules.specs.Layout.{Layout, base, state_at, creation_at, dependences_at, transactor_address, message_address}
use Rattle.rules.specs.State.{Transactor, Message, State, transactor_at, message_at, own_history, place_of}
use Rattle.rules.specs.Step.{done, dropped}
use Rattle.rules.specs.Refusals.{malformed}
use Rattle.rules.specs.Rules.{is_some, join, known, message_unrelated, message_superseded, receiver_superseded, rollback, receipt_rolls_back, receipt_unrelated, refusal}
use Rattle.rules.specs.Pack.{unpack_dependences, waiting_in, unpack}
use Rattle.rules.specs.declared.refusals.Refusal.{Refusal}
use Rattle.rules.specs.Numbers.{refusal_number}
use Rattle.rules.specs.Internal.Guards.{first, receiver_refusal, is_last_incarnation, image_refusal}
use Rattle.rules.proofs.ByKind.Guards.{first_taken, first-left, receiver-first}
use Rattle.rules.proofs.ByKind.Refused.{refuses}
use Rattle.rules.proofs.Calls.Begin.{wrong-length, right-length}
use Rattle.rules.proofs.Pack.Loads.{read-state, read-creation, read-dependences, unpack-waiting}
use Rattle.rules.proofs.Pack.Sizes.{largest-base}
use Rattle.form.proofs.Unsound.{image-refused, sound-long, sound-not}
use Rattle.decisive.specs.declared.Decision.{Decision}
use Rattle.decisive.specs.Decision.{decider, decision_of, receiving, decision_refusal, undecided, decision_answer, DecisionPromise}
use Rattle.decisive.specs.Internal.Judging.{Judged, refused_by, told_by, falls_by, settled_by, found_by, judged_by, judged_of}
use Rattle.decisive.proofs.Decisions.{outcome_by, decision-as}

-- ---- a fall

last_as : (t : ℕ) (x : Transactor) {h : History} → h ≡ own_history t x → (h.count ≡ 0 → ⊥) → h.incarnation < 65536 → eqb h.incarnation 65535 ≡ is_last_incarnation base t x
unfolding is_last_incarnation
last_as t x {h} e n b = rw (← e, lt-ltb 0 h.count (omega (arith, n)), largest-base) (same h.incarnation b)
  where
    same : (i : ℕ) → i < 65536 → eqb i 65535 ≡ leb 65535 i
    same i b = ⊎_elim
        (λ (z : i < 65535). ne_eqb i 65535 (λ (w : i ≡ 65535). absurd (omega arith)) ∙ sym (lt-leb 65535 i z))
        (λ (z : 65535 ≤ i). eq-eqb i 65535 (omega arith) ∙ sym (le-leb 65535 i z))
        (sides i 65535)

module _ (t : ℕ) (x : Transactor) (u : ℕ) {h : History} (e : h ≡ own_history t x) where
  pub falls-vanished : h.count ≡ 0 → {r : Judged} → r ≡ told_by 4 u → r ≡ falls_by base t x u
  unfolding falls_by is_last_incarnation rollback
  falls-vanished z q = rw (← e, z) q

  module _ (n : h.count ≡ 0 → ⊥) where
    pub falls-last : h.incarnation ≡ 65535 → {r : Judged} → r ≡ refused_by 28 → r ≡ falls_by base t x u
    unfolding falls_by
    falls-last z q = rw (← last_as t x e n (omega (arith, z)), eq-eqb h.incarnation 65535 z) q

    fallen : (rollback base t x).outcome ≡ 3
    unfolding rollback
    fallen = rw (← e, ne_eqb h.count 0 n) refl

    pub falls-back : (h.incarnation ≡ 65535 → ⊥) → h.incarnation < 65536 → {r : Judged} → r ≡ told_by 3 u → r ≡ falls_by base t x u
    unfolding falls_by
    falls-back z b q = rw (← last_as t x e n b, ne_eqb h.incarnation 65535 z, fallen) q

-- ---- by the two answers

-- take t, and the parcel in place k that waits
module _ (img : List ℕ) (t : ℕ) (below : t < base.transactors) (k : ℕ) (waits : k < waiting_in base img) where
  abbrev packed_deps : DependenceMap
  packed_deps = unpack_dependences base (message_address base k + dependences_at) img

  abbrev packed_known : DependenceMap
  packed_known = join base (unpack_dependences base (transactor_address base t + state_at) img) (unpack_dependences base (transactor_address base t + creation_at base) img)

  pub read-unrelated : {u : Bool} → u ≡ any_unrelated base.transactors packed_deps packed_known → u ≡ message_unrelated base (transactor_at (unpack base img) t) (message_at (unpack base img) k)
  unfolding message_unrelated
  read-unrelated e = rw (read-dependences base img k waits, read-state base img t below, read-creation base img t below) e

  pub read-message : {p : Option ℕ} → p ≡ first_superseded base.transactors packed_deps packed_known
      → p ≡ first_superseded base.transactors (message_at (unpack base img) k).dependences (known base (transactor_at (unpack base img) t))
  read-message e = rw (read-dependences base img k waits, read-state base img t below, read-creation base img t below) e

  pub read-receiver : {p : Option ℕ} → p ≡ first_superseded base.transactors packed_known packed_deps
      → p ≡ first_superseded base.transactors (known base (transactor_at (unpack base img) t)) (message_at (unpack base img) k).dependences
  read-receiver e = rw (read-dependences base img k waits, read-state base img t below, read-creation base img t below) e

-- ---- an idle addressee

module _ (y : Layout) (t : ℕ) (x : Transactor) (m : Message) {u : Bool} (e : u ≡ message_unrelated y x m) where
  pub judged-unrelated : u ≡ true → {r : Judged} → r ≡ refused_by 31 → r ≡ judged_by y t x m
  unfolding judged_by
  judged-unrelated z q = rw (← e, z) q

  module _ (z : u ≡ false) (p q : RustOption ℕ) (f : answer_of p ≡ first_superseded y.transactors m.dependences (known y x)) (g : answer_of q ≡ first_superseded y.transactors (known y x) m.dependences) where
    judged-as : {r : Judged} → r ≡ found_by y t x (answer_of p) (answer_of q) → r ≡ judged_by y t x m
    unfolding judged_by
    judged-as w = rw (← e, z, ← f, ← g) w

    pub judged-settled : p ≡ None → {r : Judged} → r ≡ settled_by y t x (answer_of q) → r ≡ judged_by y t x m
    judged-settled h {r} w = judged-as (w ∙ ap (λ (c : RustOption ℕ). found_by y t x (answer_of c) (answer_of q)) (sym h))

    pub judged-dropped : {v : ℕ} → p ≡ Some v → {r : Judged} → r ≡ told_by dropped v → r ≡ judged_by y t x m
    judged-dropped h {r} w = judged-as (w ∙ ap (λ (c : RustOption ℕ). found_by y t x (answer_of c) (answer_of q)) (sym h))

-- ---- by number

-- the refusals, one after the other, and the decision where there is none
abbrev found : Bool → ℕ → Option ℕ → Option ℕ → Judged
found last o (some u) q = told_by dropped u
found last o none none = told_by done 0
found last o none (some u) = pick last (refused_by 28) (told_by o u)

abbrev outcome : ℕ → Option ℕ → Option ℕ → ℕ
outcome o (some u) q = dropped
outcome o none (some u) = o
outcome o none none = done

abbrev numbers : Bool → Bool → Option ℕ → Option ℕ → ℕ
numbers u last p q = pick u 31 (pick ((not (is_some p) and is_some q) and last) 28 0)

in-numbers : (u last : Bool) (o : ℕ) (p q : Option ℕ) → pick u (refused_by 31) (found last o p q)
    ≡ record { refusal = numbers u last p q; decision = pick (eqb (numbers u last p q) 0) (record { outcome = outcome o p q; transactor = decider p q }) undecided }
in-numbers true last o p q = refl
in-numbers false last o (some u) q = refl
in-numbers false last o none none = refl
in-numbers false true o none (some u) = refl
in-numbers false false o none (some u) = refl

found_as : (y : Layout) (t : ℕ) (x : Transactor) (p q : Option ℕ) → found_by y t x p q ≡ found (is_last_incarnation y t x) (rollback y t x).outcome p q
unfolding falls_by
found_as y t x (some u) q = refl
found_as y t x none none = refl
found_as y t x none (some u) = refl

outcome-as : (y : Layout) (t : ℕ) (x : Transactor) (p q : Option ℕ) → outcome_by y t x p q ≡ outcome (rollback y t x).outcome p q
outcome-as y t x (some u) q = refl
outcome-as y t x none none = refl
outcome-as y t x none (some u) = refl

module _ (img : List ℕ) (n k : ℕ) (place : k ≡ place_of (unpack base img) n) where
  abbrev s : State
  s = unpack base img

  -- why take t does not receive it, being idle, and why it does not at all
  abbrev refusal_idle : ℕ → ℕ
  refusal_idle t =
      pick (message_unrelated base (transactor_at s t) (message_at s k)) 31
      (pick ((not (message_superseded base (transactor_at s t) (message_at s k)) and receiver_superseded base (transactor_at s t) (message_at s k)) and is_last_incarnation base t (transactor_at s t)) 28 0)

  abbrev refusal_to : ℕ → ℕ
  refusal_to t = first (receiver_refusal (transactor_at s t).status) (refusal_idle t)

  refusal_is : refusal base s (receiving n) ≡ pick (leb (length s.messages) k) 24 (refusal_to (message_at s k).addressee)
  unfolding receipt_rolls_back receipt_unrelated malformed
  refusal_is =
      let m : Message = message_at s k in
      let x : Transactor = transactor_at s m.addressee in
      rw (receiver-first x.status (refusal_idle m.addressee), place) ((refuses base s (receiving n) refl).receive refl)

  pub number-missing : waiting_in base img ≤ k → {r : Judged} → r ≡ refused_by 24 → r ≡ judged_of base s n
  unfolding judged_of
  number-missing h q = rw (refusal_is, le-leb (length s.messages) k (omega (arith, unpack-waiting base img))) q

  module _ (waits : k < waiting_in base img) {t : ℕ} (to : t ≡ (message_at s k).addressee) where
    refusal-to : refusal base s (receiving n) ≡ refusal_to t
    refusal-to = rw to (refusal_is ∙ rw (lt-leb (length s.messages) k (omega (arith, waits, unpack-waiting base img))) refl)

    abbrev x : Transactor
    x = transactor_at s t

    abbrev m : Message
    m = message_at s k

    abbrev p : Option ℕ
    p = first_superseded base.transactors m.dependences (known base x)

    abbrev q : Option ℕ
    q = first_superseded base.transactors (known base x) m.dependences

    abbrev decided : Decision
    decided = record { outcome = outcome (rollback base t x).outcome p q; transactor = decider p q }

    abbrev why : ℕ
    why = numbers (message_unrelated base x m) (is_last_incarnation base t x) p q

    judged-is : judged_by base t x m ≡ record { refusal = why; decision = pick (eqb why 0) decided undecided }
    unfolding judged_by
    judged-is = rw (found_as base t x p q) (in-numbers (message_unrelated base x m) (is_last_incarnation base t x) (rollback base t x).outcome p q)

    -- where it is not refused
    decision-is : refusal base s (receiving n) ≡ 0 → decision_of base s n ≡ decided
    decision-is h =
        let r : t ≡ (message_at s (place_of s n)).addressee = to ∙ ap (λ (i : ℕ). (message_at s i).addressee) place in
        let e : p ≡ first_superseded base.transactors (message_at s (place_of s n)).dependences (known base (transactor_at s (message_at s (place_of s n)).addressee)) =
        λ i. first_superseded base.transactors (message_at s (place i)).dependences (known base (transactor_at s (r i))) in
        let f : q ≡ first_superseded base.transactors (known base (transactor_at s (message_at s (place_of s n)).addressee)) (message_at s (place_of s n)).dependences =
        λ i. first_superseded base.transactors (known base (transactor_at s (r i))) (message_at s (place i)).dependences in
        decision-as base s n p q h (sym e) (sym f)
        ∙ (λ i. record { outcome = outcome_by base (sym r i) (transactor_at s (sym r i)) p q; transactor = decider p q })
        ∙ ap (λ (o : ℕ). record { outcome = o; transactor = decider p q }) (outcome-as base t x p q)

    settle : (b : Bool) → eqb (refusal base s (receiving n)) 0 ≡ b → pick b decided undecided ≡ pick b (decision_of base s n) undecided
    settle true e = sym (decision-is (eqb-true (refusal base s (receiving n)) 0 e))
    settle false e = refl

    module _ {st : ℕ} (e : st ≡ (transactor_at s t).status) where
      asked : {g : ℕ} → g ≡ receiver_refusal st → g ≡ receiver_refusal (transactor_at s t).status
      asked f = f ∙ ap receiver_refusal e

      -- r is what its status decides
      pub number-refused : (r : Refusal) → refusal_number r ≡ receiver_refusal st → refused_by (refusal_number r) ≡ judged_of base s n
      unfolding judged_of
      number-refused r f =
          let h : refusal_number r ≡ 0 → ⊥ = refused r in
          let z : refusal base s (receiving n) ≡ refusal_number r =
          refusal-to ∙ first_taken (receiver_refusal (transactor_at s t).status) (refusal_idle t) (refusal_number r) (asked f) h in
          rw (z, ne_eqb (refusal_number r) 0 h)

      pub number-idle : 0 ≡ receiver_refusal st → {r : Judged} → r ≡ judged_by base t x m → r ≡ judged_of base s n
      unfolding judged_of message_superseded receiver_superseded
      number-idle f w =
          let i : refusal base s (receiving n) ≡ why = refusal-to ∙ first-left (receiver_refusal (transactor_at s t).status) (refusal_idle t) 0 (asked f) refl in
          w ∙ judged-is
          ∙ sym (ap (λ (z : ℕ). record { refusal = z; decision = pick (eqb z 0) decided undecided }) i)
          ∙ ap (λ (d : Decision). record { refusal = refusal base s (receiving n); decision = d }) (settle (eqb (refusal base s (receiving n)) 0) refl)

-- ---- the call

module _ (img : List ℕ) (n : ℕ) where
  pub decide-refused : (r : Refusal) → refusal_number r ≡ image_refusal base img → DecisionPromise base img n (refusal_number r) undecided
  unfolding decision_refusal decision_answer
  decide-refused r is = image-refused base img (refusal_number r) is (λ (z : ℕ). DecisionPromise base img n z undecided)
      (λ h. let e = wrong-length base img h in (rw e refl, rw e refl))
      (λ h e. let l = right-length base img h in (rw (l, e) refl, rw (l, e) refl))
      (refused r)

  pub decide-judged : 0 ≡ image_refusal base img → {j : Judged} → j ≡ judged_of base (unpack base img) n → DecisionPromise base img n j.refusal j.decision
  unfolding decision_refusal decision_answer judged_of
  decide-judged is q =
      let l = right-length base img (sound-long base img 0 is refl) in
      let e = sound-not base img 0 is refl in
      (rw (l, e, q) refl, rw (l, e, q) refl)
