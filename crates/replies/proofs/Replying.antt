-- Replies in words.
use Prim.Native.Nat.{ℕ, ◌+◌, ◌-◌, ◌*◌, ◌≤◌, ◌<◌}
use mathlib.Core.Bool.{Bool, true, false}
use mathlib.Core.Path.{◌≡◌, refl, sym, ap, ◌∙◌}
use mathlib.Core.List.{List, [], ◌++◌}
use native.Mathlib.Omega.{arith}
use borrow.Author.Tests.{leb-true, lt-ltb, le-ltb, eq-eqb, ne_eqb}
use lib.Dec.{eqb, ltb, leb}
use lib.ListN.{length, take, drop, get_or, length-append}
use Rattle.octets.specs.Bytes.{every, part}
use Rattle.octets.proofs.Put.{part-def}
use Rattle.octets.proofs.Tests.{pick-view}
use Rattle.octets.proofs.Zero.{both, every-at}
use Rattle.rules.specs.declared.Step.{Step}
use Rattle.rules.specs.declared.Reply.{Reply}
use Rattle.rules.specs.Step.{step_bytes, step_at, unpack_step, unpack_reply, receive, not_ready}
use Rattle.rules.specs.Calls.{steps_in}
use Rattle.notation.specs.Notation.{bytes, decimal, places, hex}
use Rattle.refusal_words.specs.Words.{refusal_words}
use Rattle.refusal_words.proofs.Wording.{words-short}
use Rattle.lines.specs.declared.Line.{Line}
use Rattle.lines.specs.Lines.{line_room, written, plus, Says}
use Rattle.replies.specs.Replies.{replies_transactor, replies_message, replies_value, outcomes, outcome_of, field_text, fields_text, is_outcome, sentence_of, refusal_text, is_refused, reply_text, reply_text_at}
use Rattle.notation.proofs.Numerals.{length-hex}
use Rattle.lines.proofs.Putting.{decimal-places}
use Rattle.lines.proofs.Lining.{plus_none, plus-two, plus-three, says-short, written-empty}

-- ---- the table, by computation

outcomes-short : every 6 (λ k. leb (length (outcome_of k)) 11) ≡ true
unfolding every outcome_of
outcomes-short = refl

outcome-short : (k : ℕ) → k < 6 → length (outcome_of k) ≤ 11
outcome-short k h = leb-true (length (outcome_of k)) 11 (every-at (λ k. leb (length (outcome_of k)) 11) 6 k outcomes-short h)

pub outcome-def : (k : ℕ) → outcome_of k ≡ get_or outcomes k []
unfolding outcome_of
outcome-def k = refl

-- ---- the tests

module _ (k : ℕ) (r : Reply) where
  pub outcome-low : (x : Bool) → x ≡ is_outcome k r → x ≡ true → r.outcome ≤ not_ready
  unfolding is_outcome
  outcome-low x e h = leb-true r.outcome not_ready (both (leb r.outcome not_ready) _ (sym e ∙ h)).0

-- ---- a reply's fields

pub field-used : (a b c w : List ℕ) (used : Bool) (n : ℕ) → used ≡ true → b ≡ plus a w → c ≡ plus b (decimal places n) → c ≡ plus a (field_text used w n)
unfolding field_text
field-used a b c w used n u e f = rw u (plus-two a b c w (decimal places n) e f)

pub field-unused : (l : Line) → length l.bytes ≡ line_room → (w : List ℕ) (used : Bool) (n : ℕ) → used ≡ false → written l ≡ plus (written l) (field_text used w n)
unfolding field_text
field-unused l z w used n u = rw u (plus_none l z)

module _ (k : ℕ) (r : Reply) where
  pub fields-said : (a b c d : List ℕ) (t p v : Bool) → t ≡ replies_transactor k → b ≡ plus a (field_text t (bytes " take ") r.transactor) → p ≡ replies_message k
      → c ≡ plus b (field_text p (bytes " parcel ") r.message) → v ≡ replies_value k r.outcome → d ≡ plus c (field_text v (bytes " text ") r.value) → d ≡ plus a (fields_text k r)
  unfolding fields_text
  fields-said a b c d t p v e f g h i j =
      let x : List ℕ = field_text (replies_transactor k) (bytes " take ") r.transactor in
      let y : List ℕ = field_text (replies_message k) (bytes " parcel ") r.message in
      let z : List ℕ = field_text (replies_value k r.outcome) (bytes " text ") r.value in
      plus-three a b c d x y z (rw e at f) (rw g at h) (rw i at j)

pub refused-said : (a b c d l : List ℕ) (k n : ℕ) → b ≡ plus a (bytes "refused ") → c ≡ plus b (decimal places n)
    → d ≡ plus c (bytes ": ") → l ≡ plus d (sentence_of k n) → l ≡ plus a (refusal_text k n)
unfolding refusal_text
refused-said a b c d l k n f g h i =
    plus-two a d l (bytes "refused " ++ decimal places n ++ bytes ": ") (sentence_of k n)
    (plus-three a b c d (bytes "refused ") (decimal places n) (bytes ": ") f g h) i

module _ (a b : List ℕ) (k n : ℕ) where
  pub sentence-other : (n ≡ 23 → ⊥) → b ≡ plus a (refusal_words n) → b ≡ plus a (sentence_of k n)
  unfolding sentence_of
  sentence-other h e = rw (ne_eqb n 23 h) e

  pub sentence-work : n ≡ 23 → (k ≡ receive → ⊥) → b ≡ plus a (bytes "acting take not at work") → b ≡ plus a (sentence_of k n)
  unfolding sentence_of
  sentence-work h g e = rw (eq-eqb n 23 h, ne_eqb k 2 g) e

  pub sentence-idle : n ≡ 23 → k ≡ receive → b ≡ plus a (bytes "receiving take not idle") → b ≡ plus a (sentence_of k n)
  unfolding sentence_of
  sentence-idle h g e = rw (eq-eqb n 23 h, eq-eqb k 2 g) e

-- ---- how long they are

field-short : (used : Bool) (w : List ℕ) (n : ℕ) → length (field_text used w n) ≤ length w + 10
unfolding field_text
field-short true w n = omega (arith, length-append w (decimal places n), decimal-places places n)
field-short false w n = omega arith

fields-short : (k : ℕ) (r : Reply) → length (fields_text k r) ≤ 50
unfolding fields_text
fields-short k r =
    let x : List ℕ = field_text (replies_transactor k) (bytes " take ") r.transactor in
    let y : List ℕ = field_text (replies_message k) (bytes " parcel ") r.message in
    let z : List ℕ = field_text (replies_value k r.outcome) (bytes " text ") r.value in
    omega (arith, length-append (x ++ y) z, length-append x y, field-short (replies_transactor k) (bytes " take ") r.transactor, field-short (replies_message k) (bytes " parcel ") r.message, field-short (replies_value k r.outcome) (bytes " text ") r.value)

sentence-short : (k n : ℕ) → length (sentence_of k n) ≤ 77
unfolding sentence_of
sentence-short k n = pick-view (λ (w : List ℕ). length w ≤ 77) (eqb n 23) _ _
    (λ e. pick-view (λ (w : List ℕ). length w ≤ 77) (eqb k receive) _ _ (λ f. omega arith) (λ f. omega arith))
    (λ e. words-short n)

refusal-short : (k n : ℕ) → length (refusal_text k n) ≤ 97
unfolding refusal_text
refusal-short k n =
    let s : List ℕ = sentence_of k n in
    omega (arith, length-append (bytes "refused " ++ decimal places n ++ bytes ": ") s, length-append (bytes "refused " ++ decimal places n) (bytes ": "), length-append (bytes "refused ") (decimal places n), decimal-places places n, sentence-short k n)

-- ---- a reply

module _ (k : ℕ) (b : List ℕ) (r : Reply) (is : r ≡ unpack_reply b) (l : Line) (sized : length l.bytes ≡ line_room) (x : Bool) (e : x ≡ is_outcome k r) where
  pub outcome-says : (z m w : List ℕ) → x ≡ true → z ≡ [] → m ≡ plus z w → w ≡ get_or outcomes r.outcome [] → written l ≡ plus m (fields_text k r) → Says l (reply_text k b)
  unfolding reply_text
  outcome-says z m w h f g o i =
      let j = outcome-short r.outcome (omega (arith, outcome-low k r x e h)) in
      let n : m ≡ plus z (outcome_of r.outcome) = g ∙ ap (plus z) (o ∙ sym (outcome-def r.outcome)) in
      let t : is_outcome k r ≡ true = sym e ∙ h in
      let s : Says l (outcome_of r.outcome ++ fields_text k r) =
      says-short l z (outcome_of r.outcome ++ fields_text k r) f (plus-two z m (written l) (outcome_of r.outcome) (fields_text k r) n i) (omega (arith, length-append (outcome_of r.outcome) (fields_text k r), fields-short k r, j)) sized in
      rw (← is, t) s

  module _ (no : x ≡ false) (y : Bool) (f : y ≡ is_refused r) where
    pub refusal-says : (z : List ℕ) → y ≡ true → z ≡ [] → written l ≡ plus z (refusal_text k r.outcome) → Says l (reply_text k b)
    unfolding reply_text
    refusal-says z h g i =
        let t : is_outcome k r ≡ false = sym e ∙ no in
        let u : is_refused r ≡ true = sym f ∙ h in
        rw (← is, t, u) (says-short l z (refusal_text k r.outcome) g i (omega (arith, refusal-short k r.outcome)) sized)

    pub raw-says : (z m : List ℕ) → length b ≡ step_bytes → y ≡ false → z ≡ [] → m ≡ plus z (bytes "raw ") → written l ≡ plus m (hex b) → Says l (reply_text k b)
    unfolding reply_text
    raw-says z m n h g i j =
        let t : is_outcome k r ≡ false = sym e ∙ no in
        let u : is_refused r ≡ false = sym f ∙ h in
        rw (← is, t, u) (says-short l z (bytes "raw " ++ hex b) g (plus-two z m (written l) (bytes "raw ") (hex b) i j) (omega (arith, length-append (bytes "raw ") (hex b), length-hex b)) sized)

-- the part that is lent is the reply
pub step_part : (at : ℕ) (a m l : List ℕ) → a ≡ plus m (hex (take (at + 8 - at) (drop at l))) → a ≡ plus m (hex (part at step_bytes l))
step_part at a m l e =
    let n : at + 8 - at ≡ step_bytes = omega arith in
    e ∙ ap (λ (x : List ℕ). plus m (hex x)) (ap (λ (k : ℕ). take k (drop at l)) n ∙ sym (part-def at step_bytes l))

-- ---- the reply to step i

module _ (list replies : List ℕ) (i : ℕ) where
  pub reply-no-step : (bs : List ℕ) → steps_in list ≤ i → Says (record { bytes = bs; len = 0 }) (reply_text_at list replies i)
  unfolding reply_text_at
  reply-no-step bs h =
      let e : ltb i (steps_in list) ≡ false = le-ltb i (steps_in list) h in
      rw e (record { is = written-empty bs; len = refl })

  pub reply-none : (bs : List ℕ) → i < steps_in list → steps_in replies ≤ i → Says (record { bytes = bs; len = 0 }) (reply_text_at list replies i)
  unfolding reply_text_at
  reply-none bs h g =
      let e : ltb i (steps_in list) ≡ true = lt-ltb i (steps_in list) h in
      let f : ltb i (steps_in replies) ≡ false = le-ltb i (steps_in replies) g in
      rw (e, f) (record { is = written-empty bs; len = refl })

  pub reply-some : (l : Line) (p : Step) → i < steps_in list → i < steps_in replies → p ≡ unpack_step (part (8 * i) step_bytes list) → Says l (reply_text p.kind (part (8 * i) step_bytes replies)) → Says l (reply_text_at list replies i)
  unfolding reply_text_at step_at
  reply-some l p h g q s =
      let e : ltb i (steps_in list) ≡ true = lt-ltb i (steps_in list) h in
      let f : ltb i (steps_in replies) ≡ true = lt-ltb i (steps_in replies) g in
      rw (e, f, ← q) s
