-- The steps of a plan, one by one: a letter, its receipt, a freeze, a signing; and lists of steps that are all answered with 0.
use Prim.Native.Nat.{ℕ, ◌+◌, ◌*◌, ◌-◌, ◌≤◌, ◌<◌}
use mathlib.Core.Bool.{false, not}
use mathlib.Core.Path.{◌≡◌, refl, sym, ap, ◌∙◌, subst}
use mathlib.Core.List.{List, [], ◌∷◌, ◌++◌, append-nil}
use mathlib.Core.Logic.{⊎_elim}
use native.Mathlib.Omega.{arith}
use lib.Dec.{eqb}
use lib.ListN.{length, set, take, drop, length-append, get_or-append}
use lib.Seq.{take-append_seam, drop-append-add, get_or_at}
use borrow.Author.Tests.{eq-eqb, eqb-true, ne_eqb, lt-leb, not-false}
use Rattle.octets.specs.Bytes.{◌and◌, ◌or◌, Octets}
use Rattle.octets.proofs.Chunks.{sides}
use Rattle.octets.proofs.Put.{part-whole, octets-append, octets-nil}
use Rattle.octets.proofs.Tests.{and-false, or_off, pick-view}
use Rattle.octets.proofs.Zero.{any-off}
use Rattle.maps.specs.declared.DependenceMap.{DependenceMap}
use Rattle.maps.specs.Map.{Sized, held_at, with_entry, any_unrelated, superseded_entry, superseded_at, unrelated_entry, unrelated_at}
use Rattle.maps.specs.News.{informed_of}
use Rattle.maps.proofs.Map.{held-empty}
use Rattle.maps.proofs.News.{informed-apart}
use Rattle.maps.proofs.Superseded.{superseded-none}
use Rattle.marks.specs.History.{stabilized}
use Rattle.rules.specs.Layout.{Layout, last_number}
use Rattle.rules.specs.Status.{idle, busy}
use Rattle.rules.specs.State.{Transactor, Message, State, no_message, transactor_at, message_at, own_history, with_status, with_state, with_transactor, with_opened, with_message, without_message, place_of, numbered}
use Rattle.rules.specs.Step.{Step, step_bytes, unpack_step, pack_step, step_at, done, root, letter, receive, new, send, lose, sign}
use Rattle.rules.specs.Refusals.{malformed}
use Rattle.rules.specs.Rules.{Result, no_dependences, known, taken, message_superseded, receiver_superseded, message_unrelated, receive_by, freeze_by, local_by, receipt_rolls_back, receipt_unrelated, group_ready, checkpoint_group, refusal, answer, opened, apply_root, apply_letter, apply_receive, apply_new, apply_send, apply_local, apply_lose, apply_sign, apply, step_of}
use Rattle.rules.specs.Calls.{state_after}
use Rattle.rules.specs.Groups.{signing}
use Rattle.rules.specs.Plan.{waking, receipt, freezing}
use Rattle.rules.specs.Internal.Well.{StepOk}
use Rattle.rules.specs.Internal.Guards.{room_refusal}
use Rattle.rules.proofs.Pack.Steps.{length-pack_step, octets-pack_step, unpack-pack}
use Rattle.rules.proofs.Places.{place_from-is}
use Rattle.rules.proofs.Keep.Run.{after-zero, after-suc, at_left, at_right, after-left, after-append}
use Rattle.rules.proofs.Keep.Step.{applied-same}
use Rattle.rules.proofs.ByKind.Refused.{refuses}
use Rattle.rules.proofs.ByKind.Applied.{applies}

-- ---- a step packed

pub step-one : (p : Step) → StepOk p → step_at (pack_step p) 0 ≡ p
unfolding step_at
step-one p h = ap unpack_step (part-whole 8 (pack_step p) (length-pack_step p)) ∙ unpack-pack p h

-- ---- lists of steps that are all answered with 0

-- the n steps of b lead from s to s'
pub record Runs (y : Layout) (s : State) (b : List ℕ) (n : ℕ) (s' : State) : Type 0 where
  pub whole : length b ≡ step_bytes * n
  pub octets : Octets b
  pub ends : state_after y s b n ≡ s'
  pub replies : (i : ℕ) → i < n → (step_of y (state_after y s b i) (step_at b i)).reply.outcome ≡ done

module _ (y : Layout) where
  pub runs_none : (s : State) → Runs y s [] 0 s
  runs_none s = record { whole = refl; octets = octets-nil; ends = after-zero y s []; replies = λ i h. absurd (omega arith) }

  pub runs-one : (s s' : State) (p : Step) → StepOk p → (step_of y s p).reply.outcome ≡ done → (step_of y s p).state ≡ s' → Runs y s (pack_step p) 1 s'
  runs-one s s' p ok e f = record {
    whole = length-pack_step p;
    octets = octets-pack_step p;
    ends = after-suc y s (pack_step p) 0 ∙ ap (λ (x : State). (step_of y x (step_at (pack_step p) 0)).state) (after-zero y s (pack_step p)) ∙ ap (λ (q : Step). (step_of y s q).state) (step-one p ok) ∙ f;
    replies = λ i h. subst (λ (k : ℕ). (step_of y (state_after y s (pack_step p) k) (step_at (pack_step p) k)).reply.outcome ≡ done) {x = 0} {y = i} (omega arith)
        (ap (λ (x : State). (step_of y x (step_at (pack_step p) 0)).reply.outcome) (after-zero y s (pack_step p)) ∙ ap (λ (q : Step). (step_of y s q).reply.outcome) (step-one p ok) ∙ e);
  }

  pub runs_append : {s s' s'' : State} {b c : List ℕ} {n m : ℕ} → Runs y s b n s' → Runs y s' c m s'' → Runs y s (b ++ c) (n + m) s''
  runs_append {s} {s'} {s''} {b} {c} {n} {m} r q = record {
    whole = length-append b c ∙ omega (arith, r.whole, q.whole);
    octets = octets-append b c r.octets q.octets;
    ends = after-append b c n r.whole y s m ∙ ap (λ (x : State). state_after y x c m) r.ends ∙ q.ends;
    replies = λ i h. ⊎_elim
        (λ (l : i < n). first i l)
        (λ (l : n ≤ i). subst (λ (k : ℕ). (step_of y (state_after y s (b ++ c) k) (step_at (b ++ c) k)).reply.outcome ≡ done) {x = n + (i - n)} {y = i} (omega arith) (second (i - n) (omega arith)))
        (sides i n);
  }
    where
      first : (i : ℕ) → i < n → (step_of y (state_after y s (b ++ c) i) (step_at (b ++ c) i)).reply.outcome ≡ done
      first i l = rw (after-left b c n r.whole y s i (omega arith), at_left b c n r.whole i l) (r.replies i l)

      second : (j : ℕ) → j < m → (step_of y (state_after y s (b ++ c) (n + j)) (step_at (b ++ c) (n + j))).reply.outcome ≡ done
      second j l = rw (after-append b c n r.whole y s j, at_right b c n r.whole j, r.ends) (q.replies j l)

-- ---- a letter

module _ (y : Layout) (s : State) (c : ℕ) (opened : c < s.opened) where
  pub letter-done : length s.messages < s.limits.messages → (s.next ≡ last_number → ⊥)
      → step_of y s (waking c) ≡ record { reply = answer done c s.next 0; state = with_message s c 0 (no_dependences y) }
  unfolding malformed room_refusal apply_letter
  letter-done room number =
      applied-same y s (waking c) ((refuses y s (waking c) refl).letter refl
      ∙ rw (lt-leb s.opened c opened, lt-leb s.limits.messages (length s.messages) room, ne_eqb s.next last_number number))
      ∙ (applies y s (waking c)).letter refl

-- ---- the receipt of a parcel that has no mark

module _ (y : Layout) (x : Transactor) (m : Message) (empty : m.dependences ≡ no_dependences y) where
  none-held : (u : ℕ) → held_at m.dependences u ≡ false
  none-held u = ap (λ (d : DependenceMap). held_at d u) empty ∙ held-empty y.places y.transactors u

  pub empty-fresh : message_superseded y x m ≡ false
  unfolding message_superseded superseded_at superseded_entry
  empty-fresh = rw ((superseded-none y.transactors m.dependences (known y x)).1 (λ i h. rw (none-held i)))

  pub empty-silent : receiver_superseded y x m ≡ false
  unfolding receiver_superseded superseded_at superseded_entry
  empty-silent = rw ((superseded-none y.transactors (known y x) m.dependences).1 (λ i h. rw (none-held i) (and-false (held_at (known y x) i))))

  pub empty-related : message_unrelated y x m ≡ false
  unfolding message_unrelated any_unrelated unrelated_at unrelated_entry
  empty-related = any-off (unrelated_at m.dependences (known y x)) y.transactors (λ i h. rw (none-held i))

-- a take that is woken: at work, and else as before
abbrev pub woken : Transactor → Transactor
woken x = with_status x busy

-- it is frozen
abbrev pub frozen_by : ℕ → Transactor → Transactor
frozen_by c x = with_state (woken x) (with_entry x.state c (stabilized (own_history c x)))

-- s with another next number
abbrev pub numbered_on : State → ℕ → State
numbered_on s n = record { limits = s.limits; opened = s.opened; next = n; transactors = s.transactors; messages = s.messages }

module _ (y : Layout) (s : State) (numbers : (k : ℕ) → k < length s.messages → (message_at s k).number < s.next) (c : ℕ) where
  abbrev sent : Message
  sent = record { addressee = c; number = s.next; value = 0; dependences = no_dependences y }

  abbrev posted : State
  posted = with_message s c 0 (no_dependences y)

  sent_is : message_at posted (length s.messages) ≡ sent
  unfolding message_at with_message
  sent_is = get_or_at s.messages sent [] no_message (length s.messages) refl

  many : length posted.messages ≡ length s.messages + 1
  unfolding with_message
  many = length-append s.messages (sent ∷ [])

  before-is : (k : ℕ) → k < length s.messages → message_at posted k ≡ message_at s k
  unfolding message_at with_message
  before-is k h = get_or-append s.messages (sent ∷ []) no_message k h

  sent-place : place_of posted s.next ≡ length s.messages
  unfolding place_of numbered
  sent-place = place_from-is (numbered posted s.next) 0 (length posted.messages) (length s.messages) (omega arith) (omega (arith, many))
      (λ i a h. ne_eqb (message_at posted i).number s.next (λ (e : (message_at posted i).number ≡ s.next).
      let f : (message_at posted i).number ≡ (message_at s i).number = ap (λ (m : Message). m.number) (before-is i h) in
      omega (arith, numbers i h)))
      (λ h. eq-eqb (message_at posted (length s.messages)).number s.next (ap (λ (m : Message). m.number) sent_is))

  same-transactor : transactor_at posted c ≡ transactor_at s c
  unfolding transactor_at with_message
  same-transactor = refl

  removed : (x : Transactor) → without_message (with_transactor posted c x) (length s.messages) ≡ numbered_on (with_transactor s c x) (s.next + 1)
  unfolding without_message with_transactor with_message
  removed x =
      let e : take (length s.messages) (s.messages ++ (sent ∷ [])) ≡ s.messages = take-append_seam s.messages (sent ∷ []) in
      let f : drop (length s.messages + 1) (s.messages ++ (sent ∷ [])) ≡ [] = drop-append-add s.messages (sent ∷ []) 1 in
      let g : take (length s.messages) (s.messages ++ (sent ∷ [])) ++ drop (length s.messages + 1) (s.messages ++ (sent ∷ [])) ≡ s.messages =
      ap (λ (l : List Message). l ++ drop (length s.messages + 1) (s.messages ++ (sent ∷ []))) e ∙ ap (λ (l : List Message). s.messages ++ l) f ∙ append-nil s.messages in
      λ i. record { limits = s.limits; opened = s.opened; next = s.next + 1; transactors = set s.transactors c x; messages = g i }

  module _ (x : Transactor) (is : transactor_at s c ≡ x) (status : x.status ≡ idle) (behaves : x.behaviour ≡ no_dependences y)
      (state : Sized y.transactors x.state) (creation : Sized y.transactors x.creation) where
    untold : (a : DependenceMap) → Sized y.transactors a → informed_of y.transactors c a (no_dependences y) ≡ a
    untold a k = informed-apart y.transactors c a (no_dependences y) k (λ u h. rw (held-empty y.places y.transactors u) (and-false (held_at a u)))

    taken_is : taken y c x (no_dependences y) ≡ woken x
    taken_is =
        let e = untold x.state state in
        let f = untold x.creation creation in
        let g = sym behaves in
        λ i. record { status = busy; value = x.value; saved = x.saved; state = e i; creation = f i; behaviour = g i }

    received_is : receive_by y c x sent ≡ record { outcome = done; value = 0; transactor = woken x }
    unfolding receive_by
    received_is = rw (empty-fresh y x sent refl, empty-silent y x sent refl, taken_is)

    found : message_at posted (place_of posted s.next) ≡ sent
    found = ap (message_at posted) sent-place ∙ sent_is

    there : transactor_at posted (message_at posted (place_of posted s.next)).addressee ≡ x
    there = ap (λ (m : Message). transactor_at posted m.addressee) found ∙ same-transactor ∙ is

    not-unrelated : receipt_unrelated y posted s.next ≡ false
    unfolding receipt_unrelated
    not-unrelated =
        ap (λ (m : Message). message_unrelated y (transactor_at posted m.addressee) m) found
        ∙ ap (λ (z : Transactor). message_unrelated y z sent) (same-transactor ∙ is) ∙ empty-related y x sent refl

    not-rolled : receipt_rolls_back y posted s.next ≡ false
    unfolding receipt_rolls_back
    not-rolled =
        ap (λ (m : Message). not (message_superseded y (transactor_at posted m.addressee) m) and receiver_superseded y (transactor_at posted m.addressee) m) found
        ∙ ap (λ (z : Transactor). not (message_superseded y z sent) and receiver_superseded y z sent) (same-transactor ∙ is)
        ∙ rw (empty-fresh y x sent refl, empty-silent y x sent refl)

    receipt-passes : refusal y posted (receipt s.next) ≡ 0
    unfolding malformed
    receipt-passes = (refuses y posted (receipt s.next) refl).receive refl
        ∙ rw (not-unrelated, not-rolled, there, status, sent-place, lt-leb (length posted.messages) (length s.messages) (omega (arith, many)))

    pub receipt-done : step_of y posted (receipt s.next) ≡ record { reply = answer done c s.next 0; state = numbered_on (with_transactor s c (woken x)) (s.next + 1) }
    unfolding apply_receive
    receipt-done =
        applied-same y posted (receipt s.next) receipt-passes ∙ (applies y posted (receipt s.next)).receive refl
        ∙ rw (sent-place, sent_is, same-transactor, is, received_is, removed (woken x))

-- ---- a freeze

module _ (y : Layout) (s : State) (c : ℕ) (opened : c < s.opened) (x : Transactor) (is : transactor_at s c ≡ x) (status : x.status ≡ busy) where
  freeze-passes : refusal y s (freezing c) ≡ 0
  unfolding malformed
  freeze-passes = (refuses y s (freezing c) refl).local (omega arith) (omega arith) ∙ rw (lt-leb s.opened c opened, is, status)

  frozen-is : with_state x (with_entry x.state c (stabilized (own_history c x))) ≡ frozen_by c x
  frozen-is = λ i. record { status = status i; value = x.value; saved = x.saved; state = with_entry x.state c (stabilized (own_history c x)); creation = x.creation; behaviour = x.behaviour }

  pub freeze-done : step_of y s (freezing c) ≡ record { reply = answer done c 0 0; state = with_transactor s c (frozen_by c x) }
  unfolding apply_local local_by freeze_by
  freeze-done =
      applied-same y s (freezing c) freeze-passes ∙ (applies y s (freezing c)).local (omega arith) (omega arith)
      ∙ rw (is, frozen-is)

-- ---- a signing

-- a step of kind sign that is not refused with 20 is the signing of its volume, and has no other field
pub signing_of : (p : Step) → malformed p ≡ false → p.kind ≡ sign → p ≡ signing p.message
unfolding malformed
signing_of p e k =
    let a : not (eqb p.transactor 0) or (not (eqb p.other 0) or (not (eqb p.zero 0) or not (eqb p.value 0))) ≡ false = rw k at e in
    let b = or_off (not (eqb p.transactor 0)) (not (eqb p.other 0) or (not (eqb p.zero 0) or not (eqb p.value 0))) a in
    let c = or_off (not (eqb p.other 0)) (not (eqb p.zero 0) or not (eqb p.value 0)) b.1 in
    let d = or_off (not (eqb p.zero 0)) (not (eqb p.value 0)) c.1 in
    let t : p.transactor ≡ 0 = eqb-true p.transactor 0 (not-false (eqb p.transactor 0) b.0) in
    let o : p.other ≡ 0 = eqb-true p.other 0 (not-false (eqb p.other 0) c.0) in
    let z : p.zero ≡ 0 = eqb-true p.zero 0 (not-false (eqb p.zero 0) d.0) in
    let v : p.value ≡ 0 = eqb-true p.value 0 (not-false (eqb p.value 0) d.1) in
    λ i. record { kind = k i; transactor = t i; other = o i; zero = z i; message = p.message; value = v i }

-- ---- no step changes the limits

pub limits-same : (y : Layout) (s : State) (p : Step) → (step_of y s p).state.limits ≡ s.limits
unfolding step_of apply apply_root apply_letter apply_receive apply_new apply_send apply_lose apply_sign apply_local opened with_opened with_transactor with_message without_message checkpoint_group
limits-same y s p =
    let k : ℕ = p.kind in
    let P : Result → Type 0 = λ r. r.state.limits ≡ s.limits in
    pick-view P (eqb (refusal y s p) 0) _ _ (λ e.
    pick-view P (eqb k root) _ _ (λ e. refl) λ e0.
    pick-view P (eqb k letter) _ _ (λ e. refl) λ e1.
    pick-view P (eqb k receive) _ _ (λ e. refl) λ e2.
    pick-view P (eqb k new) _ _ (λ e. refl) λ e3.
    pick-view P (eqb k send) _ _ (λ e. refl) λ e4.
    pick-view P (eqb k lose) _ _ (λ e. refl) λ e5.
    pick-view P (eqb k sign) _ _ (λ e. pick-view P (group_ready y s p.message) _ _ (λ e. refl) (λ e. refl)) λ e6. refl) (λ e. refl)
