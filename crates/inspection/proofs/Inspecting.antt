-- Lines of an image.
use Prim.Native.Nat.{ℕ, zero, suc, ◌+◌, ◌-◌, ◌*◌, ◌/◌, ◌%◌, ◌≤◌, ◌<◌}
use mathlib.Core.Bool.{Bool, true, false}
use mathlib.Core.Path.{◌≡◌, refl, sym, ap, ◌∙◌, subst}
use mathlib.Core.List.{List, [], ◌∷◌, ◌++◌, append-nil}
use native.Mathlib.Numerals.{add-one}
use native.Mathlib.Omega.{arith}
use borrow.Author.Tests.{lt-ltb, le-ltb, le-leb, lt-leb, ne_eqb, eq-eqb}
use lib.Dec.{eqb, ltb}
use lib.ListN.{length, drop, get_or, length-append, length-drop}
use Rattle.octets.specs.Bytes.{pick, part, chunks}
use Rattle.octets.specs.Numbers.{of_be}
use Rattle.octets.proofs.Chunks.{chunks-suc}
use Rattle.marks.specs.declared.History.{History}
use Rattle.marks.specs.Packed.{unpack_history, present_in}
use Rattle.maps.specs.declared.DependenceMap.{DependenceMap}
use Rattle.maps.specs.Map.{held_at, history_at}
use Rattle.rules.specs.Layout.{base, transactor_address, value_at}
use Rattle.rules.specs.State.{Transactor, State, transactor_at, message_at}
use Rattle.rules.specs.Internal.Guards.{image_refusal}
use Rattle.rules.specs.Pack.{unpack, unpack_dependences, unpack_transactor, unpack_transactor_at, waiting_in}
use Rattle.rules.proofs.Pack.Loads.{held-at, history-at, part-transactor, read-transactor, read-saved, read-state, read-creation, read-behaviour, read-dependences, unpack-waiting}
use Rattle.notation.specs.Notation.{bytes, decimal, places}
use Rattle.lines.specs.declared.Line.{Line}
use Rattle.lines.specs.Lines.{line_room, written, plus, Says}
use Rattle.lines.proofs.Putting.{decimal-places}
use Rattle.lines.proofs.Lining.{plus-two, plus-three, plus-empty, said-length, says-short, written-empty}
use Rattle.image.specs.Internal.Addresses.{map_at}
use Rattle.std.proofs.Common.{Ok, Err, Some, None}
use Rattle.rules.specs.Numbers.{refusal_number, status_number}
use Rattle.rules.specs.declared.statuses.Status.{Status}
use Rattle.rules.specs.declared.statuses.Status.TheVariants.{Unused, Idle, Busy, Annihilated}
use Rattle.rules.proofs.Refused.{refused}
use Rattle.rules.specs.Layout.{image_bytes}
use Rattle.form.proofs.Unsound.{sound-long}
use Rattle.rules.specs.declared.refusals.Refusal.{Refusal}
use Rattle.inspection.specs.Inspection.{piece, entries_text, list_text, incarnation_text, history_text, entry_text, values_text, status_text, transactor_text, map_text, transactor_line, message_text, message_line, limits_text, counters_text, line_text, inspect_refusal, ended, inspected, Inspects}

-- ---- pieces

pub piece-said : (a b c w : List ℕ) (n : ℕ) → b ≡ plus a w → c ≡ plus b (decimal places n) → c ≡ plus a (piece w n)
unfolding piece
piece-said a b c w n e f = plus-two a b c w (decimal places n) e f

pub piece-short : (w : List ℕ) (n : ℕ) → length (piece w n) ≤ length w + 10
unfolding piece
piece-short w n = omega (arith, length-append w (decimal places n), decimal-places places n)

-- by what a test says
pub says-left : (l : Line) (t : Bool) (x y : List ℕ) → t ≡ true → Says l x → Says l (pick t x y)
says-left l t x y e s = subst (λ (b : Bool). Says l (pick b x y)) (sym e) s

pub says-right : (l : Line) (t : Bool) (x y : List ℕ) → t ≡ false → Says l y → Says l (pick t x y)
says-right l t x y e s = subst (λ (b : Bool). Says l (pick b x y)) (sym e) s

pub says_nothing : (bs : List ℕ) → Says (record { bytes = bs; len = 0 }) []
says_nothing bs = record { is = written-empty bs; len = refl }

-- two or three words with their numbers, and LF
module _ (l : Line) (sized : length l.bytes ≡ line_room) (z a b : List ℕ) (none : z ≡ []) (v w : List ℕ) (i j p q : ℕ) (ei : i ≡ p) (ej : j ≡ q) (first : a ≡ plus z (piece v i)) (second : b ≡ plus a (piece w j)) where
  pub two-say : written l ≡ plus b (10 ∷ []) → length v + length w ≤ 100 → Says l (piece v p ++ piece w q ++ (10 ∷ []))
  two-say e h =
      says-short l z (piece v p ++ piece w q ++ (10 ∷ [])) none (plus-three z a b (written l) (piece v p) (piece w q) (10 ∷ []) (first ∙ ap (λ (n : ℕ). plus z (piece v n)) ei) (second ∙ ap (λ (n : ℕ). plus a (piece w n)) ej) e)
      (omega (arith, length-append (piece v p ++ piece w q) (10 ∷ []), length-append (piece v p) (piece w q), piece-short v p, piece-short w q)) sized

  pub three-say : (c u : List ℕ) (k r : ℕ) → k ≡ r → c ≡ plus b (piece u k) → written l ≡ plus c (10 ∷ []) → length v + length w + length u ≤ 100 → Says l (piece v p ++ piece w q ++ piece u r ++ (10 ∷ []))
  three-say c u k r ek third e h =
      says-short l z (piece v p ++ piece w q ++ piece u r ++ (10 ∷ [])) none
      (plus-two z c (written l) (piece v p ++ piece w q ++ piece u r) (10 ∷ []) (plus-three z a b c (piece v p) (piece w q) (piece u r) (first ∙ ap (λ (n : ℕ). plus z (piece v n)) ei) (second ∙ ap (λ (n : ℕ). plus a (piece w n)) ej) (third ∙ ap (λ (n : ℕ). plus b (piece u n)) ek)) e)
      (omega (arith, length-append (piece v p ++ piece w q ++ piece u r) (10 ∷ []), length-append (piece v p ++ piece w q) (piece u r), length-append (piece v p) (piece w q), piece-short v p, piece-short w q, piece-short u r)) sized

-- ---- the list of a mark

-- its first i entries
unfoldable pub entries_to : History → ℕ → List ℕ
entries_to h n = chunks n (λ i. 44 ∷ decimal places (get_or h.checkpoints i 0))

entries_to-suc : (h : History) (i : ℕ) → entries_to h (i + 1) ≡ entries_to h i ++ (44 ∷ decimal places (get_or h.checkpoints i 0))
unfolding entries_to
entries_to-suc h i = rw add-one (chunks-suc i (λ i. 44 ∷ decimal places (get_or h.checkpoints i 0)))

entries-short : (h : History) (i : ℕ) → length (entries_to h i) ≤ 11 * i
unfolding entries_to chunks
entries-short h zero = omega arith
entries-short h (suc i) = omega (arith, length-append (entries_to h i) (44 ∷ decimal places (get_or h.checkpoints i 0)), decimal-places places (get_or h.checkpoints i 0), entries-short h i)

pub entries_none : (h : History) (bs : List ℕ) → written (record { bytes = bs; len = 0 }) ≡ plus [] (entries_to h 0)
unfolding entries_to chunks
entries_none h bs = written-empty bs ∙ sym (plus-empty [] (omega arith))

pub entries-more : (h : History) (i : ℕ) (a b c : List ℕ) → a ≡ plus [] (entries_to h i) → b ≡ plus a (44 ∷ []) → c ≡ plus b (decimal places (get_or h.checkpoints i 0)) → c ≡ plus [] (entries_to h (i + 1))
entries-more h i a b c e f g =
    plus-two [] a c (entries_to h i) (44 ∷ decimal places (get_or h.checkpoints i 0)) e (plus-two a b c (44 ∷ []) (decimal places (get_or h.checkpoints i 0)) f g)
    ∙ ap (plus []) (sym (entries_to-suc h i))

pub entries-all : (h : History) (i : ℕ) (l : Line) → written l ≡ plus [] (entries_to h i) → i ≡ h.count → h.count ≤ 15 → length l.bytes ≡ line_room → (written l ≡ entries_text h) × (l.len ≤ 165)
unfolding entries_text entries_to
entries-all h i l e f k z =
    let s = entries-short h i in
    let v : written l ≡ entries_to h i = e ∙ plus-empty (entries_to h i) (omega arith) in
    (v ∙ ap (entries_to h) f, omega (arith, said-length l (entries_to h i) z v (omega arith)))

pub list-empty : (h : History) → h.count ≡ 0 → list_text h ≡ bytes "empty"
unfolding list_text
list-empty h e = rw e

pub list-some : (h : History) → (h.count ≡ 0 → ⊥) → list_text h ≡ drop 1 (entries_text h)
unfolding list_text
list-some h n = rw (ne_eqb h.count 0 n)

list-short : (h : History) → h.count ≤ 15 → length (list_text h) ≤ 165
unfolding list_text entries_text entries_to
list-short h k = go (eqb h.count 0)
  where
    go : (t : Bool) → length (pick t (bytes "empty") (drop 1 (entries_to h h.count))) ≤ 165
    go true = omega arith
    go false = omega (arith, length-drop 1 (entries_to h h.count), entries-short h h.count)

-- ---- a mark

module _ (h : History) where
  pub incarnation-said : (a b c d e : List ℕ) → b ≡ plus a (40 ∷ []) → c ≡ plus b (list_text h) → d ≡ plus c (piece (bytes "; ") h.incarnation) → e ≡ plus d (41 ∷ []) → e ≡ plus a (incarnation_text h)
  unfolding incarnation_text
  incarnation-said a b c d e p q r s = plus-two a d e ((40 ∷ []) ++ list_text h ++ piece (bytes "; ") h.incarnation) (41 ∷ []) (plus-three a b c d (40 ∷ []) (list_text h) (piece (bytes "; ") h.incarnation) p q r) s

  pub history-stable : (a b c : List ℕ) → h.stable ≡ true → b ≡ plus a (incarnation_text h) → c ≡ plus b (bytes " frozen") → c ≡ plus a (history_text h)
  unfolding history_text
  history-stable a b c e p q = plus-two a b c (incarnation_text h) (bytes " frozen") p q ∙ ap (λ (t : Bool). plus a (incarnation_text h ++ pick t (bytes " frozen") [])) (sym e)

  pub history-loose : (a b : List ℕ) → h.stable ≡ false → b ≡ plus a (incarnation_text h) → b ≡ plus a (history_text h)
  unfolding history_text
  history-loose a b e p = p ∙ ap (plus a) (sym (append-nil (incarnation_text h))) ∙ ap (λ (t : Bool). plus a (incarnation_text h ++ pick t (bytes " frozen") [])) (sym e)

  history-short : h.count ≤ 15 → length (history_text h) ≤ 186
  unfolding history_text incarnation_text
  history-short k =
      let x : List ℕ = (40 ∷ []) ++ list_text h in
      let y : List ℕ = piece (bytes "; ") h.incarnation in
      omega (arith, length-append (x ++ y ++ (41 ∷ [])) (pick h.stable (bytes " frozen") []), length-append (x ++ y) (41 ∷ []), length-append x y, length-append (40 ∷ []) (list_text h), list-short h k, piece-short (bytes "; ") h.incarnation, flag h.stable)
    where
      flag : (t : Bool) → length (pick t (bytes " frozen") []) ≤ 7
      flag true = omega arith
      flag false = omega arith

-- the count has four bits
pub count_low : (b : List ℕ) (h : History) → h ≡ unpack_history 2 15 b → h.count ≤ 15
unfolding unpack_history
count_low b h e = omega (arith, ap (λ (x : History). x.count) e)

-- ---- an entry of a map

module _ (name img : List ℕ) (at u : ℕ) (below : u < 16) where
  pub entry-none : (bs : List ℕ) (r : Bool) → r ≡ present_in (part (at + 33 * u) 33 img) → r ≡ false → Says (record { bytes = bs; len = 0 }) (entry_text name u (unpack_dependences base at img))
  unfolding entry_text
  entry-none bs r e n =
      let k : held_at (unpack_dependences base at img) u ≡ false = held-at base at img u below ∙ sym e ∙ n in
      rw k (record { is = written-empty bs; len = refl })

  pub entry-some : (r : Bool) (h : History) (l : Line) (z a b c : List ℕ) → r ≡ present_in (part (at + 33 * u) 33 img) → r ≡ true → h ≡ unpack_history 2 15 (part (at + 33 * u) 33 img)
      → z ≡ [] → a ≡ plus z (piece name u) → b ≡ plus a (32 ∷ []) → c ≡ plus b (history_text h) → written l ≡ plus c (10 ∷ []) → length l.bytes ≡ line_room → length name ≤ 20
      → Says l (entry_text name u (unpack_dependences base at img))
  unfolding entry_text
  entry-some r h l z a b c e n f g p q s t sized short =
      let k : held_at (unpack_dependences base at img) u ≡ true = held-at base at img u below ∙ sym e ∙ n in
      let y : history_at (unpack_dependences base at img) u ≡ h = history-at base at img u below ∙ sym f in
      let x : List ℕ = piece name u ++ (32 ∷ []) ++ history_text h ++ (10 ∷ []) in
      let w : written l ≡ plus z x = plus-two z c (written l) (piece name u ++ (32 ∷ []) ++ history_text h) (10 ∷ []) (plus-three z a b c (piece name u) (32 ∷ []) (history_text h) p q s) t in
      let m : length x < line_room = omega (arith, length-append (piece name u ++ (32 ∷ []) ++ history_text h) (10 ∷ []), length-append (piece name u ++ (32 ∷ [])) (history_text h), length-append (piece name u) (32 ∷ []), piece-short name u, history-short h (count_low (part (at + 33 * u) 33 img) h f)) in
      rw (k, y) (says-short l z x g w m sized)

-- ---- statuses

pub not-unused : (s : Status) → (s ≡ Unused → ⊥) → status_number s ≡ 0 → ⊥
not-unused Unused n e = n refl
not-unused Idle n e = absurd (omega arith)
not-unused Busy n e = absurd (omega arith)
not-unused Annihilated n e = absurd (omega arith)

pub not-idle : (s : Status) → (s ≡ Idle → ⊥) → status_number s ≡ 1 → ⊥
not-idle Unused n e = absurd (omega arith)
not-idle Idle n e = n refl
not-idle Busy n e = absurd (omega arith)
not-idle Annihilated n e = absurd (omega arith)

pub not-annihilated : (s : Status) → (s ≡ Annihilated → ⊥) → status_number s ≡ 3 → ⊥
not-annihilated Unused n e = absurd (omega arith)
not-annihilated Idle n e = absurd (omega arith)
not-annihilated Busy n e = absurd (omega arith)
not-annihilated Annihilated n e = n refl

-- ---- a take

read-value : (img : List ℕ) (t : ℕ) → t < 16 → (transactor_at (unpack base img) t).value ≡ of_be 4 (part (transactor_address base t + value_at) 4 img)
unfolding unpack_transactor_at unpack_transactor
read-value img t h = ap (λ (x : Transactor). x.value) (read-transactor base img t h) ∙ ap (of_be 4) (part-transactor base img t value_at 4 (omega arith))

pub value_loaded : (img : List ℕ) (t r : ℕ) → t < 16 → r ≡ of_be 4 (part (8 + 1593 * t + 1) 4 img) → r ≡ (transactor_at (unpack base img) t).value
value_loaded img t r h e = e ∙ sym (read-value img t h)

pub saved-loaded : (img : List ℕ) (t r : ℕ) → t < 16 → r ≡ of_be 4 (part (8 + 1593 * t + 5) 4 img) → r ≡ (transactor_at (unpack base img) t).saved
saved-loaded img t r h e = e ∙ sym (read-saved base img t h)

module _ (x : Transactor) where
  pub values-said : (a b c d : List ℕ) (v w : ℕ) → v ≡ x.value → b ≡ plus a (decimal places v) → w ≡ x.saved → c ≡ plus b (piece (bytes ", saved ") w) → d ≡ plus c (10 ∷ []) → d ≡ plus a (values_text x)
  unfolding values_text
  values-said a b c d v w e p f q r =
      plus-three a b c d (decimal places x.value) (piece (bytes ", saved ") x.saved) (10 ∷ []) (p ∙ ap (λ (n : ℕ). plus a (decimal places n)) e) (q ∙ ap (λ (n : ℕ). plus b (piece (bytes ", saved ") n)) f) r

  module _ (st : ℕ) (is : st ≡ x.status) (a b c : List ℕ) where
    abbrev live : Bool → List ℕ
    live t = pick t (bytes ": idle, text ") (bytes ": at work, text ") ++ values_text x

    pub status-annihilated : st ≡ 3 → b ≡ plus a (bytes ": vanished\n") → b ≡ plus a (status_text x)
    unfolding status_text
    status-annihilated h p = p ∙ ap (λ (t : Bool). plus a (pick t (bytes ": vanished\n") (live (eqb x.status 1)))) (sym (eq-eqb x.status 3 (sym is ∙ h)))

    living : (st ≡ 3 → ⊥) → (t : Bool) → eqb x.status 1 ≡ t → c ≡ plus a (live t) → c ≡ plus a (status_text x)
    unfolding status_text
    living n t e p =
        p ∙ ap (λ (t : Bool). plus a (live t)) (sym e)
        ∙ ap (λ (t : Bool). plus a (pick t (bytes ": vanished\n") (live (eqb x.status 1)))) (sym (ne_eqb x.status 3 (λ (e : x.status ≡ 3). n (is ∙ e))))

    pub status-idle : (st ≡ 3 → ⊥) → st ≡ 1 → b ≡ plus a (bytes ": idle, text ") → c ≡ plus b (values_text x) → c ≡ plus a (status_text x)
    status-idle n h p q = living n true (eq-eqb x.status 1 (sym is ∙ h)) (plus-two a b c (bytes ": idle, text ") (values_text x) p q)

    pub status-busy : (st ≡ 3 → ⊥) → (st ≡ 1 → ⊥) → b ≡ plus a (bytes ": at work, text ") → c ≡ plus b (values_text x) → c ≡ plus a (status_text x)
    status-busy n m p q = living n false (ne_eqb x.status 1 (λ (e : x.status ≡ 1). m (is ∙ e))) (plus-two a b c (bytes ": at work, text ") (values_text x) p q)

  values-short : length (values_text x) ≤ 29
  unfolding values_text
  values-short = omega (arith, length-append (decimal places x.value ++ piece (bytes ", saved ") x.saved) (10 ∷ []), length-append (decimal places x.value) (piece (bytes ", saved ") x.saved), decimal-places places x.value, piece-short (bytes ", saved ") x.saved)

  status-short : length (status_text x) ≤ 45
  unfolding status_text
  status-short = go (eqb x.status 3) (eqb x.status 1)
    where
      go : (t u : Bool) → length (pick t (bytes ": vanished\n") (pick u (bytes ": idle, text ") (bytes ": at work, text ") ++ values_text x)) ≤ 45
      go true u = omega arith
      go false true = omega (arith, length-append (bytes ": idle, text ") (values_text x), values-short)
      go false false = omega (arith, length-append (bytes ": at work, text ") (values_text x), values-short)

  pub transactor-none : (bs : List ℕ) (t st : ℕ) → st ≡ x.status → st ≡ 0 → Says (record { bytes = bs; len = 0 }) (transactor_text t x)
  unfolding transactor_text
  transactor-none bs t st e h = says-left (record { bytes = bs; len = 0 }) (eqb x.status 0) [] (piece (bytes "take ") t ++ status_text x) (eq-eqb x.status 0 (sym e ∙ h)) (says_nothing bs)

  pub transactor-says : (l : Line) (z a : List ℕ) (t st : ℕ) → st ≡ x.status → (st ≡ 0 → ⊥) → z ≡ [] → a ≡ plus z (piece (bytes "take ") t) → written l ≡ plus a (status_text x) → length l.bytes ≡ line_room → Says l (transactor_text t x)
  unfolding transactor_text
  transactor-says l z a t st e n h p q sized =
      says-right l (eqb x.status 0) [] (piece (bytes "take ") t ++ status_text x) (ne_eqb x.status 0 (λ (f : x.status ≡ 0). n (e ∙ f)))
      (says-short l z (piece (bytes "take ") t ++ status_text x) h (plus-two z a (written l) (piece (bytes "take ") t) (status_text x) p q) (omega (arith, length-append (piece (bytes "take ") t) (status_text x), piece-short (bytes "take ") t, status-short)) sized)

module _ (img : List ℕ) (t m u : ℕ) (l : Line) (h : t < 16) where
  abbrev chosen : Transactor
  chosen = transactor_at (unpack base img) t

  pub map-state : m ≡ 0 → Says l (entry_text (bytes "  state: take ") u (unpack_dependences base (8 + 1593 * t + 9) img)) → Says l (map_text chosen m u)
  unfolding map_text
  map-state e s = says-left l (eqb m 0) _ _ (eq-eqb m 0 e) (subst (λ (d : DependenceMap). Says l (entry_text (bytes "  state: take ") u d)) (sym (read-state base img t h)) s)

  pub map-creation : (m ≡ 0 → ⊥) → m ≡ 1 → Says l (entry_text (bytes "  creation: take ") u (unpack_dependences base (8 + 1593 * t + 537) img)) → Says l (map_text chosen m u)
  unfolding map_text
  map-creation n e s =
      says-right l (eqb m 0) _ _ (ne_eqb m 0 n)
      (says-left l (eqb m 1) _ _ (eq-eqb m 1 e) (subst (λ (d : DependenceMap). Says l (entry_text (bytes "  creation: take ") u d)) (sym (read-creation base img t h)) s))

  pub map-behaviour : (m ≡ 0 → ⊥) → (m ≡ 1 → ⊥) → Says l (entry_text (bytes "  behaviour: take ") u (unpack_dependences base (8 + 1593 * t + 1065) img)) → Says l (map_text chosen m u)
  unfolding map_text
  map-behaviour n k s =
      says-right l (eqb m 0) _ _ (ne_eqb m 0 n)
      (says-right l (eqb m 1) _ _ (ne_eqb m 1 k) (subst (λ (d : DependenceMap). Says l (entry_text (bytes "  behaviour: take ") u d)) (sym (read-behaviour base img t h)) s))

module _ (s : State) (t j : ℕ) (l : Line) where
  pub transactor-first : j ≡ 0 → Says l (transactor_text t (transactor_at s t)) → Says l (transactor_line s t j)
  unfolding transactor_line
  transactor-first e k = says-left l (eqb j 0) _ _ (eq-eqb j 0 e) k

  pub transactor-other : (j ≡ 0 → ⊥) → Says l (map_text (transactor_at s t) ((j - 1) / 16) ((j - 1) % 16)) → Says l (transactor_line s t j)
  unfolding transactor_line
  transactor-other n k = says-right l (eqb j 0) _ _ (ne_eqb j 0 n) k

-- ---- a parcel

module _ (img : List ℕ) (k j : ℕ) (w : ℕ) (is : w ≡ waiting_in base img) where
  waits : k < w → ltb k (length (unpack base img).messages) ≡ true
  waits h = lt-ltb k (length (unpack base img).messages) (omega (arith, unpack-waiting base img))

  pub message-none : (bs : List ℕ) → w ≤ k → Says (record { bytes = bs; len = 0 }) (message_line (unpack base img) k j)
  unfolding message_line
  message-none bs h = says-right (record { bytes = bs; len = 0 }) (ltb k (length (unpack base img).messages)) _ _ (le-ltb k (length (unpack base img).messages) (omega (arith, unpack-waiting base img))) (says_nothing bs)

  module _ (l : Line) (h : k < w) where
    pub message-first : j ≡ 0 → Says l (message_text (message_at (unpack base img) k)) → Says l (message_line (unpack base img) k j)
    unfolding message_line
    message-first e s = says-left l (ltb k (length (unpack base img).messages)) _ _ (waits h) (says-left l (eqb j 0) _ _ (eq-eqb j 0 e) s)

    pub message-entry : (j ≡ 0 → ⊥) → (at : ℕ) → at ≡ map_at base k → Says l (entry_text (bytes "  map: take ") (j - 1) (unpack_dependences base at img)) → Says l (message_line (unpack base img) k j)
    unfolding message_line
    message-entry n at e s =
        says-left l (ltb k (length (unpack base img).messages)) _ _ (waits h)
        (says-right l (eqb j 0) _ _ (ne_eqb j 0 n) (subst (λ (d : DependenceMap). Says l (entry_text (bytes "  map: take ") (j - 1) d)) (ap (λ (a : ℕ). unpack_dependences base a img) e ∙ sym (read-dependences base img k (omega arith))) s))

-- ---- a line by its number

module _ (s : State) (n : ℕ) (l : Line) where
  pub line-limits : n ≡ 0 → Says l (limits_text s) → Says l (line_text s n)
  unfolding line_text
  line-limits e k = says-left l (eqb n 0) _ _ (eq-eqb n 0 e) k

  pub line-counters : (n ≡ 0 → ⊥) → n ≡ 1 → Says l (counters_text s) → Says l (line_text s n)
  unfolding line_text
  line-counters a e k = says-right l (eqb n 0) _ _ (ne_eqb n 0 a) (says-left l (eqb n 1) _ _ (eq-eqb n 1 e) k)

  pub line-transactor : (n ≡ 0 → ⊥) → (n ≡ 1 → ⊥) → n < 786 → Says l (transactor_line s ((n - 2) / 49) ((n - 2) % 49)) → Says l (line_text s n)
  unfolding line_text
  line-transactor a b h k = says-right l (eqb n 0) _ _ (ne_eqb n 0 a) (says-right l (eqb n 1) _ _ (ne_eqb n 1 b) (says-left l (ltb n 786) _ _ (lt-ltb n 786 h) k))

  pub line-message : (n ≡ 0 → ⊥) → (n ≡ 1 → ⊥) → 786 ≤ n → Says l (message_line s ((n - 786) / 17) ((n - 786) % 17)) → Says l (line_text s n)
  unfolding line_text
  line-message a b h k = says-right l (eqb n 0) _ _ (ne_eqb n 0 a) (says-right l (eqb n 1) _ _ (ne_eqb n 1 b) (says-right l (ltb n 786) _ _ (le-ltb n 786 h) k))

-- ---- the call

-- refused as every call is that looks at an image
refusal_is : (img : List ℕ) → image_refusal base img ≡ inspect_refusal img
unfolding image_refusal inspect_refusal
refusal_is img = refl

module _ (img : List ℕ) (n : ℕ) where
  pub inspect-refused : (r : Refusal) → refusal_number r ≡ image_refusal base img → Inspects img n (Err r)
  unfolding ended
  inspect-refused r e =
      let f : refusal_number r ≡ inspect_refusal img = e ∙ refusal_is img in
      let z : eqb (inspect_refusal img) 0 ≡ false = ne_eqb (inspect_refusal img) 0 (λ q. refused r (f ∙ q)) in
      (f, rw z)

  module _ (e : 0 ≡ image_refusal base img) where
    none : inspect_refusal img ≡ 0
    none = sym (e ∙ refusal_is img)

    pub inspect-end : 1330 ≤ n → Inspects img n (Ok None)
    unfolding ended
    inspect-end k = (none, rw (none, le-leb 1330 n k))

    pub inspect-line : (l : Line) → n < 1330 → Says l (line_text (unpack base img) n) → Inspects img n (Ok (Some l))
    unfolding ended inspected
    inspect-line l k s = (none, rw (none, lt-leb 1330 n k), rw (none, lt-leb 1330 n k) s)

    pub inspect-long : length img ≡ image_bytes base
    inspect-long = sound-long base img 0 e refl
