-- What is added to a line.
use Prim.Native.Nat.{ℕ, zero, suc, ◌+◌, ◌-◌, ◌/◌, ◌%◌, ◌≤◌, ◌<◌}
use mathlib.Core.Bool.{Bool, true, false}
use mathlib.Core.Path.{◌≡◌, refl, sym, ap, ◌∙◌, subst}
use mathlib.Core.List.{List, [], ◌∷◌, ◌++◌, append_assoc, append-nil}
use native.Mathlib.Nat.{zero-add}
use native.Mathlib.Numerals.{add-one}
use native.Mathlib.Omega.{arith}
use Prim.Native.Nat.{min}
use mathlib.Core.Logic.{⊎_elim}
use Rattle.octets.proofs.Chunks.{sides}
use lib.ListN.{length, take, drop, get_or, set, length-append, length-take}
use lib.Seq.{take_all, take_at, take-suc-set, length-take-le}
use Rattle.octets.specs.Bytes.{pick, part}
use Rattle.octets.proofs.Put.{part-def, part-front, part-suc, part-whole}
use Rattle.rules.specs.Refusals.{named, group_bits}
use Rattle.notation.specs.Notation.{decimal, places, hex_digit, hex, members, group_text}
use Rattle.lines.specs.Lines.{Line, line_room, written, plus, Says}
use Rattle.notation.proofs.Sizes.{members-most}

cut_again : (n : ℕ) (x c : List ℕ) → take n (take n x ++ c) ≡ take n (x ++ c)
cut_again zero x c = refl
cut_again (suc n) [] c = refl
cut_again (suc n) (y ∷ x) c = ap (λ (l : List ℕ). y ∷ l) (cut_again n x c)

pub plus-plus : (a b c : List ℕ) → plus (plus a b) c ≡ plus a (b ++ c)
unfolding plus
plus-plus a b c = cut_again line_room (a ++ b) c ∙ ap (take line_room) (append_assoc a b c)

-- pieces one after the other
pub plus-two : (a b c x y : List ℕ) → b ≡ plus a x → c ≡ plus b y → c ≡ plus a (x ++ y)
plus-two a b c x y e f = f ∙ rw (e, plus-plus)

pub plus-three : (a b c d x y z : List ℕ) → b ≡ plus a x → c ≡ plus b y → d ≡ plus c z → d ≡ plus a (x ++ y ++ z)
plus-three a b c d x y z e f g = plus-two a c d (x ++ y) z (plus-two a b c x y e f) g

-- nothing more
pub plus-settled : (a b c : List ℕ) → c ≡ plus a b → c ≡ plus c []
plus-settled a b c e = sym (rw e (plus-plus a b [] ∙ ap (plus a) (append-nil b)))

pub written-def : (bs : List ℕ) (n : ℕ) → written (record { bytes = bs; len = n }) ≡ take n bs
unfolding written
written-def bs n = refl

module _ (l : Line) (sized : length l.bytes ≡ line_room) where
  pub plus_none : written l ≡ plus (written l) []
  unfolding written plus
  plus_none = sym (ap (take line_room) (append-nil (take l.len l.bytes)) ∙ take_all line_room (take l.len l.bytes) (omega (arith, length-take l.len l.bytes)))

  pub plus-start : (w : List ℕ) → written l ≡ plus (written l) (part 0 0 w)
  unfolding part
  plus-start w = plus_none

  pub plus-full : (b : ℕ) → line_room ≤ l.len → written l ≡ plus (written l) (b ∷ [])
  unfolding written plus
  plus-full b h =
      let e : take l.len l.bytes ≡ l.bytes = take_all l.len l.bytes (omega arith) in
      rw e (sym (take_at l.bytes (b ∷ []) line_room sized))

  pub plus-byte : (b : ℕ) → l.len < line_room → written (record { bytes = set l.bytes l.len b; len = l.len + 1 }) ≡ plus (written l) (b ∷ [])
  unfolding written plus
  plus-byte b h =
      rw (add-one, take-suc-set l.bytes l.len b (omega arith))
      (sym (take_all line_room (take l.len l.bytes ++ (b ∷ [])) (omega (arith, length-append (take l.len l.bytes) (b ∷ []), length-take-le l.len l.bytes (omega arith)))))

-- no more than the room is said
pub written-cut : (l : Line) → length l.bytes ≡ line_room → (n : ℕ) → n ≡ min l.len line_room → take n l.bytes ≡ written l
unfolding written
written-cut l s n e = ⊎_elim
    (λ (h : l.len < line_room). let k : n ≡ l.len = omega arith in rw k)
    (λ (h : line_room ≤ l.len). take_all n l.bytes (omega arith) ∙ sym (take_all l.len l.bytes (omega arith)))
    (sides l.len line_room)

-- a loop adds what f makes of byte after byte, from a place on
module _ (f : List ℕ → List ℕ) (join : (x y : List ℕ) → f (x ++ y) ≡ f x ++ f y) (a w : List ℕ) (from : ℕ) where
  pub plus-more : (b c : List ℕ) (i : ℕ) → b ≡ plus a (f (part from i w)) → c ≡ plus b (f (get_or w (from + i) 0 ∷ [])) → from + i < length w → c ≡ plus a (f (part from (i + 1) w))
  plus-more b c i e g h = g ∙ rw (e, plus-plus, part-suc from i w h, join (part from i w) (get_or w (from + i) 0 ∷ []))

pub word_more : (a w b c : List ℕ) (i : ℕ) → b ≡ plus a (part 0 i w) → c ≡ plus b (get_or w i 0 ∷ []) → i < length w → c ≡ plus a (part 0 (i + 1) w)
word_more a w b c i e g h = plus-more (λ x. x) (λ x y. refl) a w 0 b c i e (rw zero-add g) (omega arith)

pub plus-all : (f : List ℕ → List ℕ) (a w b : List ℕ) (i : ℕ) → b ≡ plus a (f (part 0 i w)) → i ≡ length w → b ≡ plus a (f w)
plus-all f a w b i e g = e ∙ ap (λ (x : List ℕ). plus a (f x)) (part-whole i w (sym g))

-- ---- hexadecimal digits

hex-append : (x y : List ℕ) → hex (x ++ y) ≡ hex x ++ hex y
unfolding hex
hex-append [] y = refl
hex-append (b ∷ x) y = ap (λ (l : List ℕ). hex_digit (b / 16) ∷ hex_digit (b % 16) ∷ l) (hex-append x y)

hex-one : (a : List ℕ) (x : ℕ) → plus (plus a (hex_digit (x / 16) ∷ [])) (hex_digit (x % 16) ∷ []) ≡ plus a (hex (x ∷ []))
unfolding hex
hex-one a x = plus-plus a (hex_digit (x / 16) ∷ []) (hex_digit (x % 16) ∷ [])

module _ (l : Line) (sized : length l.bytes ≡ line_room) where
  pub hex-start : (w : List ℕ) → written l ≡ plus (written l) (hex (part 0 0 w))
  unfolding hex part
  hex-start w = plus_none l sized

pub hex-more : (a w b c d : List ℕ) (i x y : ℕ) → b ≡ plus a (hex (part 0 i w)) → x ≡ hex_digit (get_or w i 0 / 16) → c ≡ plus b (x ∷ [])
    → y ≡ hex_digit (get_or w i 0 % 16) → d ≡ plus c (y ∷ []) → i < length w → d ≡ plus a (hex (part 0 (i + 1) w))
hex-more a w b c d i x y e p f q g h =
    let k : d ≡ plus b (hex (get_or w i 0 ∷ [])) = g ∙ rw (f, p, q) (hex-one b (get_or w i 0)) in
    plus-more hex hex-append a w 0 b d i e (rw zero-add k) (omega arith)

-- ---- volumes

members-next : (t g : ℕ) → t < group_bits → members (group_bits - t) t g ≡ pick (named g t) (44 ∷ decimal places t) [] ++ members (group_bits - (t + 1)) (t + 1) g
unfolding members
members-next t g h =
    let e : group_bits - t ≡ suc (group_bits - (t + 1)) = omega arith in
    rw (e, add-one)

pub member-more : (a b c : List ℕ) (t g : ℕ) → plus b (members (group_bits - t) t g) ≡ plus a (members group_bits 0 g)
    → c ≡ plus b (pick (named g t) (44 ∷ decimal places t) []) → t < group_bits → plus c (members (group_bits - (t + 1)) (t + 1) g) ≡ plus a (members group_bits 0 g)
member-more a b c t g e f h = rw (f, plus-plus, ← members-next t g h) e

pub members-all : (a b : List ℕ) (t g : ℕ) → plus b (members (group_bits - t) t g) ≡ plus a (members group_bits 0 g) → b ≡ plus b [] → t ≡ group_bits → b ≡ plus a (members group_bits 0 g)
unfolding members
members-all a b t g e z f =
    let k : group_bits - t ≡ 0 = omega arith in
    z ∙ subst (λ (n : ℕ). plus b (members n t g) ≡ plus a (members group_bits 0 g)) k e

-- one take, by what the test says
pub member-said : (a b c : List ℕ) (g t : ℕ) (r : Bool) → r ≡ named g t → r ≡ true → b ≡ plus a (44 ∷ []) → c ≡ plus b (decimal places t)
    → c ≡ plus a (pick (named g t) (44 ∷ decimal places t) [])
member-said a b c g t r e k f h =
    let n : named g t ≡ true = sym e ∙ k in
    h ∙ rw (f, n) (plus-plus a (44 ∷ []) (decimal places t))

pub member-none : (l : Line) → length l.bytes ≡ line_room → (g t : ℕ) (r : Bool) → r ≡ named g t → r ≡ false → written l ≡ plus (written l) (pick (named g t) (44 ∷ decimal places t) [])
member-none l z g t r e k =
    let n : named g t ≡ false = sym e ∙ k in
    rw n (plus_none l z)

-- ---- a line without its first byte

module _ (l other : Line) (sized : length l.bytes ≡ line_room) where
  pub rest-none : other.len ≡ 0 → written l ≡ plus (written l) (drop 1 (written other))
  unfolding written
  rest-none e = plus_none l sized ∙ ap (λ (n : ℕ). plus (written l) (drop 1 (take n other.bytes))) (sym e)

pub rest_some : (a c bs : List ℕ) (n : ℕ) → c ≡ plus a (take (n - 1) (drop 1 bs)) → 0 < n → n ≤ length bs → c ≡ plus a (drop 1 (take n bs))
rest_some a c bs n e h k =
    let m : 1 + (n - 1) ≡ n = omega arith in
    let f : take (n - 1) (drop 1 bs) ≡ drop 1 (take n bs) = sym (part-def 1 (n - 1) bs) ∙ part-front 1 (n - 1) bs (omega arith) ∙ ap (λ (x : ℕ). drop 1 (take x bs)) m in
    e ∙ ap (plus a) f

-- ---- how long a line is

pub plus-empty : (x : List ℕ) → length x ≤ line_room → plus [] x ≡ x
unfolding plus
plus-empty x h = take_all line_room x h

pub said-length : (l : Line) (x : List ℕ) → length l.bytes ≡ line_room → written l ≡ x → length x < line_room → l.len ≡ length x
unfolding written
said-length l x z e h = omega (arith, ap length e, length-take l.len l.bytes)

pub written-empty : (bs : List ℕ) → written (record { bytes = bs; len = 0 }) ≡ []
unfolding written
written-empty bs = refl

pub says-short : (r : Line) (e x : List ℕ) → e ≡ [] → written r ≡ plus e x → length x < line_room → length r.bytes ≡ line_room → Says r x
says-short r e x z f h s =
    let v : written r ≡ x = f ∙ rw z (plus-empty x (omega arith)) in
    record { is = v; len = said-length r x s v h }

-- ---- a volume: the takes in a line of their own, without the first comma

members-short : (g : ℕ) → plus [] (members group_bits 0 g) ≡ members group_bits 0 g
members-short g = plus-empty (members group_bits 0 g) (omega (arith, members-most g))

pub members-fit : (l : Line) (e : List ℕ) (g : ℕ) → length l.bytes ≡ line_room → written l ≡ plus e (members group_bits 0 g) → e ≡ [] → l.len ≤ line_room
members-fit l e g z f h =
    let k : written l ≡ members group_bits 0 g = f ∙ rw h (members-short g) in
    omega (arith, said-length l (members group_bits 0 g) z k (omega (arith, members-most g)), members-most g)

pub group-said : (a e m b r v : List ℕ) (g : ℕ) → m ≡ plus e (members group_bits 0 g) → e ≡ [] → b ≡ plus a (123 ∷ []) → r ≡ plus b (drop 1 m) → v ≡ plus r (125 ∷ []) → v ≡ plus a (group_text g)
unfolding group_text
group-said a e m b r v g f h p q s =
    let k : m ≡ members group_bits 0 g = f ∙ rw h (members-short g) in
    s ∙ rw (q, p, k, plus-plus a (123 ∷ []) (drop 1 (members group_bits 0 g)), plus-plus)
