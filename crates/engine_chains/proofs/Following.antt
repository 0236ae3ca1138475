-- The walk in words over all steps: its sets of takes and its lists of parcels are those of the walk on places.
use Prim.Native.Nat.{ℕ, zero, suc, ◌-◌, ◌*◌, ◌%◌, ◌^◌, ◌<◌}
use mathlib.Core.Bool.{Bool, true, false, not}
use mathlib.Core.Path.{◌≡◌, refl, ap, sym, ◌∙◌}
use mathlib.Core.List.{List}
use native.Mathlib.Nat.{div-one}
use native.Mathlib.Omega.{arith}
use lib.Bits.{bit_and, bit_or, and_zero_l, and_zero_r, or_zero_r, xor_zero_r}
use lib.Dec.{eqb, leb}
use lib.ListN.{length, get_or, set, replicate, length-set, length-replicate}
use lib.Seq.{get_or-set_same, get_or-set_other}
use borrow.Author.Tests.{eq-eqb, ne_eqb, eqb-true, eqb-false, lt-leb, le-leb}
use Rattle.octets.specs.Bytes.{pick, ◌and◌, ◌or◌, any, every}
use Rattle.octets.proofs.Tests.{never, and-true, and-false, and_assoc}
use Rattle.octets.proofs.Zero.{both, any-off, every-at}
use Rattle.marks.specs.Incarnation.{Incarnation}
use Rattle.rules.specs.declared.Step.{Step}
use Rattle.rules.specs.declared.Told.{Told}
use Rattle.rules.specs.Step.{unpack_step, step_at, done, held, dropped, fallen_back, vanished, not_ready, root, letter, receive, new, send, read, write, freeze, finish, fall, lose, sign, is_refusal}
use Rattle.rules.specs.Refusals.{group_bits, named, any_named}
use Rattle.rules.proofs.Bits.{named-zero, named-one, named-and, named-or, named-from, shifted, named-without}
use Rattle.engine_chains.specs.Chain as chain
use Rattle.engine_chains.specs.Chain.{Places, ground_of, message_alone, back}
use Rattle.engine_chains.specs.Back.{rollback_from, receipt_from, local_from, event_from}
use Rattle.engine_chains.specs.Internal.Walk.{Walk, meets, was_rolled_back, was_checkpointed, over, no_incarnations, over_step, walk_back, start_from, receipt_start, sign_start}
use Rattle.engine_chains.specs.Internal.Walk.{told_in, sign_walk, Walkable}
use Rattle.engine_chains.specs.declared.words.Event.{Event}
use Rattle.engine_chains.specs.declared.words.Event.TheVariants.{Nothing, Cleared, Sent, Taken, Opens, Reads, Writes, Finishes, Renewed, Annihilated, ClearedRenewed, ClearedAnnihilated}
use Rattle.engine_chains.specs.declared.words.Side.{Side}
use Rattle.engine_chains.specs.declared.words.Trail.{Trail}
use Rattle.engine_chains.specs.declared.words.Walker.{Walker}
use Rattle.engine_chains.specs.Internal.Words.{bit_of, without, rollback_words, receipt_words, local_words, event_words, changes_nothing, rolled_back_word, checkpointed_word, side_over, met_over, on_left, on_right, followed_on, passed_over, messages_over, trail_over, Follower, following, walker_with, follower_over, follower_step, follow_back, trail_from, walker_from, words_of, walker_in, places_in}
use Rattle.engine_chains.proofs.Worded.{Says, says_nothing, says-cleared, says-sent, says-taken, says-opens, says-reads, says_writes, says-finishes, says-renewed, says-annihilated, says-cleared-renewed, says-cleared-annihilated, same-places, left_back, right-back, side-met}

-- ---- one more step

less : (i : ℕ) → suc i - 1 ≡ i
less i = omega arith

pub follow-none : (steps : List ℕ) (replies : ℕ → Told) (i : ℕ) (x : Follower) → i ≡ 0 → x ≡ follow_back steps replies i x
unfolding follow_back
follow-none steps replies i x e = rw e

-- a walker is that of its words
pub walker-words : (x : Walker) → walker_in (words_of x) ≡ x
unfolding walker_in words_of
walker-words x = refl

-- Over the last of i steps from the walker x in the words w: y, in the words v, is to go over those before it.
pub follow_one : (steps : List ℕ) (replies : ℕ → Told) (i : ℕ) (w v l m : List ℕ) (x y : Walker) → (i ≡ 0 → ⊥) → x ≡ walker_in w → following y m ≡ follower_step (step_at steps (i - 1)) (replies (i - 1)) (following x l) → v ≡ words_of y
    → follow_back steps replies (i - 1) (following (walker_in v) m) ≡ follow_back steps replies i (following (walker_in w) l)
unfolding follow_back
follow_one steps replies zero w v l m x y n a b c = absurd (n refl)
follow_one steps replies (suc i) w v l m x y n a b c = rw (c, walker-words y, b, a, less i)

-- ---- the event in words is that of the walk

bit_is : (t : ℕ) → t < 16 → bit_of t ≡ 2 ^ t
unfolding bit_of
bit_is t h = rw (lt-leb 16 t h)

says-pick : {k : ℕ} {d e : Event} {f g : chain.Event} (c : Bool) → Says k d f → Says k e g → Says k (pick c d e) (pick c f g)
says-pick true a b = a
says-pick false a b = b

module _ (k : ℕ) (L : ℕ → Incarnation) where
  says-rollback : (outcome t : ℕ) → Says k (rollback_words outcome (2 ^ t)) (rollback_from outcome t L)
  unfolding rollback_words rollback_from
  says-rollback outcome t = says-pick (eqb outcome vanished) says-annihilated (says-renewed (named-one t))

  says-cleared-rollback : (c : Bool) (n t : ℕ) → n < k
      → Says k (pick c (ClearedAnnihilated n (2 ^ t)) (ClearedRenewed n (2 ^ t))) (chain.successive (chain.cleared n) (pick c (chain.annihilated t) (chain.renewed (λ u. eqb t u) L)))
  says-cleared-rollback true n t h = says-cleared-annihilated h
  says-cleared-rollback false n t h = says-cleared-renewed h (named-one t)

  says-receipt : (w : Told) → w.transactor < 16 → w.message < k → Says k (receipt_words w) (receipt_from w L)
  unfolding receipt_words receipt_from rollback_from
  says-receipt w h b = rw (bit_is w.transactor h)
      (says-pick (eqb w.outcome dropped) (says-cleared b)
      (says-pick (eqb w.outcome done) (says-taken b h)
      (says-cleared-rollback (eqb w.outcome vanished) w.message w.transactor b)))

  says-local : (i outcome t : ℕ) → Says k (local_words i outcome (2 ^ t)) (local_from i outcome t L)
  unfolding local_words local_from
  says-local i outcome t =
      says-pick (eqb i read) says-reads
      (says-pick (eqb i write) (says-pick (eqb outcome held) says_nothing says_writes)
      (says-pick (eqb i freeze) says_nothing
      (says-pick (eqb i finish) says-finishes
      (says-pick (eqb i fall) (says-pick (eqb outcome held) says-finishes (says-rollback outcome t))
      (says-pick (eqb outcome held) says_nothing (says-rollback outcome t))))))

  says-event : (p : Step) (w : Told) → p.transactor < 16 → w.transactor < 16 → w.message < k → Says k (event_words p w) (event_from p w L)
  unfolding event_words event_from
  says-event p w g h b = rw (bit_is p.transactor g, bit_is w.transactor h)
      (says-pick (eqb p.kind root) (says-renewed (named-one w.transactor))
      (says-pick (eqb p.kind letter) (says-cleared b)
      (says-pick (eqb p.kind receive) (says-receipt w h b)
      (says-pick (eqb p.kind new) (says-opens g h)
      (says-pick (eqb p.kind send) (says-sent b)
      (says-pick (eqb p.kind lose) (says-cleared b)
      (says-pick (eqb p.kind sign) (says-pick (eqb w.outcome done) (says-renewed (λ u. refl)) says_nothing)
      (says-local p.kind w.outcome p.transactor))))))))

-- ---- words and sets

any_same : (f g : ℕ → Bool) (n : ℕ) → ((u : ℕ) → u < n → f u ≡ g u) → any n f ≡ any n g
unfolding any
any_same f g zero h = refl
any_same f g (suc n) h = rw (any_same f g n (λ u k. h u (omega arith)), h n (omega arith))

any-either : (f g : ℕ → Bool) (n : ℕ) → any n (λ u. f u or g u) ≡ any n f or any n g
unfolding any
any-either f g zero = refl
any-either f g (suc n) = rw (any-either f g n) (go (any n f) (any n g) (f n) (g n))
  where
    go : (a b c d : Bool) → (a or b) or (c or d) ≡ (a or c) or (b or d)
    go true b c d = refl
    go false true true d = refl
    go false true false d = refl
    go false false true d = refl
    go false false false d = refl

-- a word is not 0 exactly if it names one
word-any : (w : ℕ) → w < 2 ^ group_bits → not (eqb w 0) ≡ any group_bits (named w)
unfolding any_named
word-any w h = ap (λ (n : ℕ). not (eqb n 0)) (sym (div-one w)) ∙ named-from w 0 h ∙ any_same (λ t. named w t and leb 0 t) (named w) group_bits (λ u k. rw (le-leb 0 u (omega arith)) (and-true (named w u)))

word_none : (w : ℕ) → w < 2 ^ group_bits → eqb w 0 ≡ not (any group_bits (named w))
word_none w h = not-not (eqb w 0) ∙ ap not (word-any w h)
  where
    not-not : (c : Bool) → c ≡ not (not c)
    not-not true = refl
    not-not false = refl

-- more in a word: those of d, and those that G names
any-more : (d w : ℕ) (b : Bool) (G : ℕ → Bool) → any group_bits (named d) ≡ b → ((u : ℕ) → u < group_bits → named w u ≡ G u) → any group_bits (named (bit_or d w)) ≡ b or any group_bits G
any-more d w b G e h = any_same (named (bit_or d w)) (λ u. named d u or named w u) group_bits (λ u k. named-or d w u) ∙ any-either (named d) (named w) group_bits ∙ rw (e, any_same (named w) G group_bits h)

-- ---- the walk in words says what the walk on places does

-- of the takes below 16
abbrev Names : ℕ → (ℕ → Bool) → Type 0
Names w G = (u : ℕ) → u < group_bits → named w u ≡ G u

record Follows (x : Follower) (y : Walk) : Type 0 where
  left : places_in x.walker.left.places (followed_on on_left x.messages) ≡ y.left
  right : places_in x.walker.right.places (followed_on on_right x.messages) ≡ y.right
  left_met : Names x.walker.left.found y.left_met
  right_met : Names x.walker.right.found y.right_met
  left_past : Names x.walker.left.past y.left_past
  right_past : Names x.walker.right.past y.right_past
  ended : Names x.walker.ended y.ended
  allowed : Names x.walker.allowed y.allowed
  left_is_superseded : any group_bits (named x.walker.left_superseded) ≡ y.left_is_superseded
  right_is_superseded : any group_bits (named x.walker.right_superseded) ≡ y.right_is_superseded
  unallowed : any group_bits (named x.walker.unallowed) ≡ y.unallowed
  size : length x.messages ≡ 1024

length-messages : (e : Event) (a b : Side) (l : List ℕ) → length (messages_over e a b l) ≡ length l
unfolding messages_over
length-messages Nothing a b l = refl
length-messages (Cleared n) a b l = length-set l n 0
length-messages (Sent n t) a b l = length-set l n 0
length-messages (Taken n t) a b l = length-set l n _
length-messages (Opens t c) a b l = refl
length-messages (Reads t) a b l = refl
length-messages (Writes t) a b l = refl
length-messages (Finishes t) a b l = refl
length-messages (Renewed v) a b l = refl
length-messages (Annihilated t) a b l = refl
length-messages (ClearedRenewed n v) a b l = length-set l n 0
length-messages (ClearedAnnihilated n t) a b l = length-set l n 0

-- what one side found, after a step that met D and changed C
module _ (x : Trail) (s : Side) (d c : ℕ) (D C M P : ℕ → Bool) (met : Names d D) (changed : Names c C) (m : Names x.found M) (p : Names x.past P) where
  found-now : Names (trail_over x s d c).found (λ u. M u or D u)
  found-now u h = named-or x.found d u ∙ rw (m u h, met u h)

  past-now : Names (trail_over x s d c).past (λ u. P u or ((M u or D u) and C u))
  past-now u h = named-or x.past (bit_and (bit_or x.found d) c) u ∙ rw (named-and (bit_or x.found d) c u, p u h, changed u h, found-now u h)

ended-as : (f s e : Bool) → f or (e and not s) ≡ pick f true (pick s false e)
ended-as true s e = refl
ended-as false true true = refl
ended-as false true false = refl
ended-as false false true = refl
ended-as false false false = refl

module _ (e : Event) (f : chain.Event) (F S : ℕ) (A B : ℕ → Bool) (a-of : Names F A) (b-of : Names S B) where
  either : Names (bit_or F S) (λ u. A u or B u)
  either u h = named-or F S u ∙ rw (a-of u h, b-of u h)

  follows-over : (x : Follower) (y : Walk) → Says (length x.messages) e f → Follows x y → Follows (follower_over e F S x) (over f A B y)
  unfolding follower_over passed_over walker_with over
  follows-over x y s h =
      let w : Walker = x.walker in
      let a : Side = w.left.places in
      let b : Side = w.right.places in
      let ml : ℕ = met_over e a (followed_on on_left x.messages) in
      let mr : ℕ = met_over e b (followed_on on_right x.messages) in
      let dl : Names ml (meets f y.left) = λ u k. side-met a (followed_on on_left x.messages) s u ∙ ap (λ (Q : Places). meets f Q u) h.left in
      let dr : Names mr (meets f y.right) = λ u k. side-met b (followed_on on_right x.messages) s u ∙ ap (λ (Q : Places). meets f Q u) h.right in
      record {
        left = left_back a b x.messages s ∙ ap (back f) h.left;
        right = right-back a b x.messages s ∙ ap (back f) h.right;
        left_met = found-now w.left a ml (bit_or F S) (meets f y.left) (λ u. A u or B u) y.left_met y.left_past dl either h.left_met h.left_past;
        right_met = found-now w.right b mr (bit_or F S) (meets f y.right) (λ u. A u or B u) y.right_met y.right_past dr either h.right_met h.right_past;
        left_past = past-now w.left a ml (bit_or F S) (meets f y.left) (λ u. A u or B u) y.left_met y.left_past dl either h.left_met h.left_past;
        right_past = past-now w.right b mr (bit_or F S) (meets f y.right) (λ u. A u or B u) y.right_met y.right_past dr either h.right_met h.right_past;
        ended = λ u k. named-or F (without w.ended S) u ∙ rw (named-without w.ended S u, a-of u k, b-of u k, h.ended u k) (ended-as (A u) (B u) (y.ended u));
        allowed = h.allowed;
        left_is_superseded = any-more w.left_superseded (bit_and ml (bit_and w.right.past w.ended)) y.left_is_superseded (λ u. meets f y.left u and y.right_past u and y.ended u) h.left_is_superseded
            (λ u k. named-and ml (bit_and w.right.past w.ended) u ∙ rw (named-and w.right.past w.ended u, dl u k, h.right_past u k, h.ended u k));
        right_is_superseded = any-more w.right_superseded (bit_and mr (bit_and w.left.past w.ended)) y.right_is_superseded (λ u. meets f y.right u and y.left_past u and y.ended u) h.right_is_superseded
            (λ u k. named-and mr (bit_and w.left.past w.ended) u ∙ rw (named-and w.left.past w.ended u, dr u k, h.left_past u k, h.ended u k));
        unallowed = any-more w.unallowed (without (without mr w.left.past) w.allowed) y.unallowed (λ u. meets f y.right u and not (y.left_past u) and not (y.allowed u)) h.unallowed
            (λ u k. named-without (without mr w.left.past) w.allowed u ∙ rw (named-without mr w.left.past u, dr u k, h.left_past u k, h.allowed u k) (and_assoc (meets f y.right u) (not (y.left_past u)) (not (y.allowed u))));
        size = length-messages e a b x.messages ∙ h.size;
      }

-- ---- over a step, and over all

names-rolled-back : (w : Told) → w.transactor < 16 → Names (rolled_back_word w) (was_rolled_back w)
unfolding rolled_back_word was_rolled_back
names-rolled-back w h u k = rw (bit_is w.transactor h) (go (eqb w.outcome fallen_back))
  where
    go : (c : Bool) → named (pick c (2 ^ w.transactor) 0) u ≡ c and eqb w.transactor u
    go true = named-one w.transactor u
    go false = named-zero u

names-checkpointed : (p : Step) (w : Told) → Names (checkpointed_word p w) (was_checkpointed p w)
unfolding checkpointed_word was_checkpointed
names-checkpointed p w u k = go (eqb p.kind sign and eqb w.outcome done)
  where
    go : (c : Bool) → named (pick c p.message 0) u ≡ c and named p.message u
    go true = refl
    go false = named-zero u

follows-pick : {x a : Follower} {y b : Walk} (c : Bool) → Follows x y → Follows a b → Follows (pick c x a) (pick c y b)
follows-pick true h k = h
follows-pick false h k = k

follows-step : (p : Step) (w : Told) (x : Follower) (y : Walk) → p.transactor < 16 → w.transactor < 16 → w.message < 1024 → Follows x y → Follows (follower_step p w x) (over_step p w y)
unfolding follower_step over_step
follows-step p w x y g h k o = follows-pick (is_refusal w.outcome) o
    (follows-over (event_words p w) (event_from p w no_incarnations) (rolled_back_word w) (checkpointed_word p w) (was_rolled_back w) (was_checkpointed p w) (names-rolled-back w h) (names-checkpointed p w) x y
    (says-event (length x.messages) no_incarnations p w g h (rw o.size k)) o)

step-transactor : (steps : List ℕ) (i : ℕ) → (step_at steps i).transactor < 16
unfolding step_at unpack_step
step-transactor steps i = omega arith

follows-all : (steps : List ℕ) (replies : ℕ → Told) (i : ℕ) (x : Follower) (y : Walk) → ((j : ℕ) → j < i → ((replies j).transactor < 16) × ((replies j).message < 1024)) → Follows x y → Follows (follow_back steps replies i x) (walk_back steps replies i y)
unfolding follow_back walk_back
follows-all steps replies zero x y h o = o
follows-all steps replies (suc i) x y h o =
    let k = h i (omega arith) in
    follows-all steps replies i (follower_step (step_at steps i) (replies i) x) (over_step (step_at steps i) (replies i) y) (λ j b. h j (omega arith))
    (follows-step (step_at steps i) (replies i) x y (step-transactor steps i) k.0 k.1 o)

-- ---- a step that changed nothing

over_nothing : (x : Follower) → follower_over Nothing 0 0 x ≡ x
unfolding follower_over walker_with passed_over messages_over side_over met_over
over_nothing x = simp (and_zero_l, and_zero_r, or_zero_r, xor_zero_r)

-- a signing that was not ready
step-unready : (p : Step) (w : Told) (x : Follower) → w.outcome ≡ not_ready → p.kind ≡ sign → follower_step p w x ≡ x
unfolding follower_step event_words rolled_back_word checkpointed_word
step-unready p w x e k = rw (e, k) (over_nothing x)

pub step-unchanged : (p : Step) (w : Told) (x : Follower) → changes_nothing p w ≡ true → x ≡ follower_step p w x
unfolding changes_nothing follower_step
step-unchanged p w x e = go (is_refusal w.outcome) refl e
  where
    go : (c : Bool) → is_refusal w.outcome ≡ c → c or eqb w.outcome not_ready and eqb p.kind sign ≡ true → x ≡ follower_step p w x
    go true h q = rw h
    go false h q = let b = both (eqb w.outcome not_ready) (eqb p.kind sign) q in sym (step-unready p w x (eqb-true w.outcome not_ready b.0) (eqb-true p.kind sign b.1))

-- no other is refused
pub step-changed : (p : Step) (w : Told) → changes_nothing p w ≡ false → is_refusal w.outcome ≡ false
unfolding changes_nothing
step-changed p w e = go (is_refusal w.outcome) e
  where
    go : (c : Bool) → c or eqb w.outcome not_ready and eqb p.kind sign ≡ false → c ≡ false
    go true q = never q
    go false q = refl

-- ---- from the start

no_number : (m n : ℕ) → ◌≡◌ {A = ℕ} (get_or (replicate m 0) n 0) 0
no_number zero zero = refl
no_number zero (suc n) = refl
no_number (suc m) zero = refl
no_number (suc m) (suc n) = no_number m n

-- parcel n alone, on the sides v
one-message : (side : ℕ → Bool) → side 0 ≡ false → (m n v k : ℕ) → n < m → followed_on side (set (replicate m 0) n v) k ≡ eqb k n and side v
one-message side z m n v k h = go (eqb k n) refl
  where
    go : (c : Bool) → eqb k n ≡ c → followed_on side (set (replicate m 0) n v) k ≡ c and side v
    go true e = rw (eqb-true k n e) (ap side (get_or-set_same (replicate m 0) n v 0 (rw (length-replicate {A = ℕ} m 0) h)))
    go false e = ap side (get_or-set_other (replicate m 0) n k v 0 (eqb-false k n e) ∙ no_number m k) ∙ z

same-eqb : (n k : ℕ) → eqb n k ≡ eqb k n
same-eqb n k = go (eqb k n) refl
  where
    go : (c : Bool) → eqb k n ≡ c → eqb n k ≡ c
    go true e = eq-eqb n k (sym (eqb-true k n e))
    go false e = ne_eqb n k (λ d. eqb-false k n e (sym d))

named-all : (u : ℕ) → u < group_bits → named 65535 u ≡ true
unfolding named every
named-all u h = every-at (named 65535) group_bits u refl h

follows-start : (support found allowed : ℕ) (l : List ℕ) (Q R : Places) (M A : ℕ → Bool) → places_in (trail_from 0 found).places (followed_on on_left l) ≡ Q → places_in (trail_from support 0).places (followed_on on_right l) ≡ R → Names found M → Names allowed A → length l ≡ 1024
    → Follows (following (walker_from support found allowed) l) (start_from Q R M A)
unfolding walker_from
follows-start support found allowed l Q R M A q p m a h = record {
  left = q;
  right = p;
  left_met = m;
  right_met = λ u b. named-zero u;
  left_past = λ u b. named-zero u;
  right_past = λ u b. named-zero u;
  ended = λ u b. named-zero u;
  allowed = a;
  left_is_superseded = any-off (named 0) group_bits (λ u b. named-zero u);
  right_is_superseded = any-off (named 0) group_bits (λ u b. named-zero u);
  unallowed = any-off (named 0) group_bits (λ u b. named-zero u);
  size = h;
}

-- state and creation of the takes G, no parcel
ground-places : (m : ℕ → Bool) (support found : ℕ) (G : ℕ → Bool) → ((u : ℕ) → named support u ≡ G u) → ((n : ℕ) → m n ≡ false) → places_in (trail_from support found).places m ≡ ground_of G
ground-places m support found G h k = same-places (places_in (trail_from support found).places m) (ground_of G) h h (λ u. named-zero u) k

message-places : (m : ℕ → Bool) (n found : ℕ) → ((k : ℕ) → m k ≡ eqb k n) → places_in (trail_from 0 found).places m ≡ message_alone n
message-places m n found h = same-places (places_in (trail_from 0 found).places m) (message_alone n) named-zero named-zero named-zero h

-- ---- what the code answers

-- none is followed
abbrev unfollowed : List ℕ
unfollowed = replicate 1024 0

-- the walk that the receipt of parcel n by take t begins with
receipt-follows : (n t : ℕ) → n < 1024 → t < 16 → Follows (following (walker_from (1 * 2 ^ t % 2 ^ 16) 0 65535) (set unfollowed n 1)) (receipt_start n t)
receipt-follows n t h k =
    let l : List ℕ = set unfollowed n 1 in
    rw (shifted t 16 k)
    (follows-start (2 ^ t) 0 65535 l (message_alone n) (ground_of (λ k. eqb k t)) (λ u. false) (λ u. true)
    (message-places (followed_on on_left l) n 0 (λ k. one-message on_left refl 1024 n 1 k h ∙ and-true (eqb k n))) (ground-places (followed_on on_right l) (2 ^ t) 0 (λ k. eqb k t) (λ u. named-one t u ∙ same-eqb t u) (λ k. one-message on_right refl 1024 n 1 k h ∙ and-false (eqb k n)))
    (λ u b. named-zero u) named-all (length-set unfollowed n 1 ∙ length-replicate {A = ℕ} 1024 0))

-- and a signing of the volume g
sign-follows : (g : ℕ) → Follows (following (walker_from g 65535 g) unfollowed) (sign_start g)
sign-follows g =
    follows-start g 65535 g unfollowed (ground_of (λ k. false)) (ground_of (named g)) (λ u. true) (named g)
    (ground-places (followed_on on_left unfollowed) 0 65535 (λ k. false) named-zero (λ k. ap on_left (no_number 1024 k))) (ground-places (followed_on on_right unfollowed) g 0 (named g) (λ u. refl) (λ k. ap on_right (no_number 1024 k)))
    named-all (λ u b. refl) (length-replicate {A = ℕ} 1024 0)

-- a word that the walk leaves is 0 exactly if nothing was met: x what is left, from y
module _ (steps replies : List ℕ) (i : ℕ) (o : Walkable steps replies i) (x : Follower) where
  pub receipt-answers : (n t : ℕ) (y : Walker) → n < 1024 → t < 16 → y ≡ walker_from (1 * 2 ^ t % 2 ^ 16) 0 65535
      → x ≡ follow_back steps (told_in replies) i (following y (set unfollowed n 1)) → x.walker.left_superseded < 65536 → x.walker.right_superseded < 65536
      → (not (eqb x.walker.left_superseded 0) ≡ (walk_back steps (told_in replies) i (receipt_start n t)).left_is_superseded) × (not (eqb x.walker.right_superseded 0) ≡ (walk_back steps (told_in replies) i (receipt_start n t)).right_is_superseded)
  receipt-answers n t y h k e f a b =
      let z : Follower = following (walker_from (1 * 2 ^ t % 2 ^ 16) 0 65535) (set unfollowed n 1) in
      let s : Follows x (walk_back steps (told_in replies) i (receipt_start n t)) =
      rw (f, e) (follows-all steps (told_in replies) i z (receipt_start n t) o.within (receipt-follows n t h k)) in
      (word-any x.walker.left_superseded a ∙ s.left_is_superseded, word-any x.walker.right_superseded b ∙ s.right_is_superseded)

  pub sign-answers : (g : ℕ) (y : Walker) → y ≡ walker_from g 65535 g
      → x ≡ follow_back steps (told_in replies) i (following y unfollowed) → x.walker.right_superseded < 65536 → x.walker.unallowed < 65536
      → eqb x.walker.right_superseded 0 and eqb x.walker.unallowed 0 ≡ not (sign_walk steps replies i g).right_is_superseded and not (sign_walk steps replies i g).unallowed
  unfolding sign_walk
  sign-answers g y e f a b =
      let s : Follows x (walk_back steps (told_in replies) i (sign_start g)) =
      rw (f, e) (follows-all steps (told_in replies) i (following (walker_from g 65535 g) unfollowed) (sign_start g) o.within (sign-follows g)) in
      rw (word_none x.walker.right_superseded a, word_none x.walker.unallowed b, s.right_is_superseded, s.unallowed)
