-- A line has no two columns at which it goes on no more; where no word stands there, a column is exact to the byte.
use Prim.Native.Nat.{ℕ, zero, suc, ◌≤◌, ◌<◌}
use mathlib.Core.Bool.{Bool, true, false, not}
use mathlib.Core.Path.{◌≡◌, refl, sym, ap, ◌∙◌, subst}
use mathlib.Core.Logic.{⊎_elim}
use mathlib.Core.List.{List, [], ◌∷◌, ◌++◌}
use native.Mathlib.Omega.{arith}
use borrow.Author.Tests.{eqb-true, not-true}
use lib.Dec.{eqb}
use lib.ListN.{length, take, drop, get_or, take-append-drop}
use lib.Seq.{length-take-le, take-append-le, take-take}
use Rattle.octets.specs.Bytes.{pick, ◌and◌, every}
use Rattle.octets.proofs.Chunks.{sides}
use Rattle.octets.proofs.Tests.{never}
use Rattle.octets.proofs.Zero.{every-at}
use Rattle.rules.specs.declared.Step.{Step}
use Rattle.notation.specs.Notation.{bytes, name_of}
use Rattle.notation.specs.Reading.{blank, in_word, not_hash, run, all, word_at, is_digit, is_hex, said}
use Rattle.notation.specs.Grammar.{Blanks, Digits, More, close, comma, Group, empty, transactors, Item, field, group, to, text, whole, Items, none, item, Says, line}
use Rattle.notation.specs.Faults.{last_or, parted, Column}
use Rattle.notation.proofs.Words.{all_append, all_weaker, all_cons, run-whole}
use Rattle.notation.proofs.Stopping.{word_same, said_same, said-front}

-- ---- a line that says a step has no comment

module _ (c : ℕ) where
  no-hash : (f : ℕ → Bool) → f 35 ≡ false → f c ≡ true → not_hash c ≡ true
  unfolding not_hash
  no-hash f z h = go (eqb c 35) refl
    where
      go : (t : Bool) → eqb c 35 ≡ t → not t ≡ true
      go true e = never (sym h ∙ ap f (eqb-true c 35 e) ∙ z)
      go false e = refl

blank-said : (c : ℕ) → blank c ≡ true → not_hash c ≡ true
unfolding blank
blank-said c = no-hash c blank refl

digit-said : (c : ℕ) → is_digit c ≡ true → not_hash c ≡ true
unfolding is_digit
digit-said c = no-hash c is_digit refl

hex-said : (c : ℕ) → is_hex c ≡ true → not_hash c ≡ true
unfolding is_hex is_digit
hex-said c = no-hash c is_hex refl

abbrev Clear : List ℕ → Type 0
Clear l = all not_hash l ≡ true

blanks-clear : (b : List ℕ) → Blanks b → Clear b
blanks-clear b a = all_weaker blank not_hash blank-said b a

digits-clear : (w : List ℕ) (n : ℕ) → Digits w n → Clear w
digits-clear w n d = all_weaker is_digit not_hash digit-said w d.only

close-clear : Clear (125 ∷ [])
unfolding all not_hash
close-clear = refl

comma-said : not_hash 44 ≡ true
unfolding not_hash
comma-said = refl

open_said : not_hash 123 ≡ true
unfolding not_hash
open_said = refl

more-clear : (g h : ℕ) (s : List ℕ) → More g s h → Clear s
more-clear g h s (close _ _ b e a) = subst Clear (sym e) (all_append not_hash b (125 ∷ []) (blanks-clear b a) close-clear)
more-clear g h s (comma _ _ t _ b c w rest e a d n m k) =
    subst Clear (sym e)
    (all_append not_hash b (44 ∷ (c ++ (w ++ rest))) (blanks-clear b a)
    (all_cons not_hash 44 (c ++ (w ++ rest)) comma-said (all_append not_hash c (w ++ rest) (blanks-clear c d) (all_append not_hash w rest (digits-clear w t n) (more-clear _ h rest k)))))

group-clear : (s : List ℕ) (g : ℕ) → Group s g → Clear s
group-clear s g (empty _ b e a) = subst Clear (sym e) (all_cons not_hash 123 (b ++ (125 ∷ [])) open_said (all_append not_hash b (125 ∷ []) (blanks-clear b a) close-clear))
group-clear s g (transactors _ t _ b w rest e a d m k) =
    subst Clear (sym e) (all_cons not_hash 123 (b ++ (w ++ rest)) open_said (all_append not_hash b (w ++ rest) (blanks-clear b a) (all_append not_hash w rest (digits-clear w t d) (more-clear _ g rest k))))

to_clear : Clear (bytes "to")
unfolding all not_hash
to_clear = refl

text-clear : Clear (bytes "text")
unfolding all not_hash
text-clear = refl

item-clear : (q r : Step) (c : ℕ) (w : List ℕ) → Item q c w r → Clear w
item-clear q r c w (field _ n _ _ i j d m e) = digits-clear w n d
item-clear q r c w (group g _ _ v e) = group-clear w g v
item-clear q r c w (to _ e) = subst Clear (sym e) to_clear
item-clear q r c w (text _ e) = subst Clear (sym e) text-clear
item-clear q r c w (whole _ _ l a e) = all_weaker is_hex not_hash hex-said w a

items-clear : (q p : Step) (cs s : List ℕ) → Items q cs s p → Clear s
unfolding all
items-clear q p cs s (none _) = refl
items-clear q p cs s (item _ r _ c ds _ b w rest e a k i is) =
    subst Clear (sym e) (all_append not_hash b (w ++ rest) (blanks-clear b a) (all_append not_hash w rest (item-clear q r c w i) (items-clear r p ds rest is)))

names-clear : every 14 (λ k. all not_hash (name_of k)) ≡ true
unfolding every all not_hash name_of
names-clear = refl

pub says-clear : (s : List ℕ) (p : Step) → Says s p → Clear s
says-clear s p (line k _ b t e _ h f a i c) =
    subst Clear (sym f)
    (all_append not_hash b (name_of k ++ (t ++ e)) (blanks-clear b a)
    (all_append not_hash (name_of k) (t ++ e) (every-at (λ j. all not_hash (name_of j)) 14 k names-clear h) (all_append not_hash t e (items-clear _ p _ t i) (blanks-clear e c))))

-- nothing of it is left out
pub says-said : (s : List ℕ) (p : Step) → Says s p → said s ≡ s
unfolding said
says-said s p d = run-whole not_hash s (says-clear s p d)

-- ---- the words before a place over which none runs

-- the word at the start of l
abbrev first : List ℕ → List ℕ
first l = take (run in_word l) l

first-cons : (c : ℕ) (l k : List ℕ) → (in_word c ≡ true → first l ≡ first k) → first (c ∷ l) ≡ first (c ∷ k)
unfolding run
first-cons c l k h = go (in_word c) refl
  where
    go : (t : Bool) → in_word c ≡ t → take (pick t (suc (run in_word l)) 0) (c ∷ l) ≡ take (pick t (suc (run in_word k)) 0) (c ∷ k)
    go true e = ap (λ (x : List ℕ). c ∷ x) (h e)
    go false e = refl

first-none : (v : List ℕ) → in_word (get_or v 0 32) ≡ false → first v ≡ []
unfolding run
first-none [] e = refl
first-none (c ∷ v) e = ap (λ (t : Bool). take (pick t (suc (run in_word v)) 0) (c ∷ v)) e

first-parted : (c : ℕ) (x v : List ℕ) → not (in_word (last_or c x) and in_word (get_or v 0 32)) ≡ true → first ((c ∷ x) ++ v) ≡ first (c ∷ x)
unfolding last_or run
first-parted c [] v e = first-cons c v [] (λ (t : in_word c ≡ true). first-none v (not-true (in_word (get_or v 0 32)) (ap (λ (b : Bool). not (b and in_word (get_or v 0 32))) (sym t) ∙ e)))
first-parted c (d ∷ x) v e = first-cons c ((d ∷ x) ++ v) (d ∷ x) (λ (t : in_word c ≡ true). first-parted d x v e)

word-parted : (a : ℕ) (u v : List ℕ) → a < length u → parted u v ≡ true → word_at (u ++ v) a ≡ word_at u a
unfolding word_at parted last_or
word-parted a [] v h e = absurd (omega arith)
word-parted zero (c ∷ u) v h e = first-parted c u v e
word-parted (suc a) (c ∷ []) v h e = absurd (omega arith)
word-parted (suc a) (c ∷ d ∷ u) v h e = word-parted a (d ∷ u) v (omega arith) e

-- ---- one column

module _ (l : List ℕ) (a b e f : ℕ) (x : Column l a e) (y : Column l b f) (h : a < b) where
  same : take b (said l) ≡ take b l
  same = said-front l b y.within

  long : length (take b l) ≡ b
  long = ap length (sym same) ∙ length-take-le b (said l) y.within

  -- the line in which what stands before b goes on has at a what l has there
  begins : take (suc a) (take b l ++ y.goes.rest) ≡ take (suc a) l
  begins = take-append-le (suc a) (take b l) y.goes.rest (omega (arith, long)) ∙ take-take (suc a) b l (omega arith)

  word-here : word_at (take b l ++ y.goes.rest) a ≡ word_at (said l) a
  word-here =
      word-parted a (take b l) y.goes.rest (omega (arith, long)) y.goes.whole
      ∙ ap (λ (u : List ℕ). word_at u a) (sym same)
      ∙ sym (word-parted a (take b (said l)) (drop b (said l)) (omega (arith, long, ap length same)) y.whole)
      ∙ ap (λ (u : List ℕ). word_at u a) (take-append-drop b (said l))

  pub not-later : ⊥
  not-later =
      let q : said (take b l ++ y.goes.rest) ≡ take b l ++ y.goes.rest = says-said (take b l ++ y.goes.rest) y.goes.step y.goes.says in
      x.stops (take b l ++ y.goes.rest) y.goes.step (subst (λ (u : List ℕ). Says u y.goes.step) (sym q) y.goes.says) begins (λ w. ap (λ (u : List ℕ). word_at u a) q ∙ word-here)

-- A line has one such column at most: it is the first.
pub column-one : (l : List ℕ) (a b e f : ℕ) → Column l a e → Column l b f → a ≡ b
column-one l a b e f x y = ⊎_elim
    (λ (h : a < b). absurd (not-later l a b e f x y h))
    (λ (h : b ≤ a). ⊎_elim (λ (k : b < a). absurd (not-later l b a f e y x k)) (λ (k : a ≤ b). omega arith) (sides b a))
    (sides a b)

-- Where a brace, a comma or the line's end stands, no line that says a step begins with the same bytes, whatever was expected.
pub column-byte : (l : List ℕ) (at e : ℕ) → Column l at e → word_at (said l) at ≡ [] → (m : List ℕ) (p : Step) → Says (said m) p → take (suc at) m ≡ take (suc at) l → ⊥
column-byte l at e x z m p d q = x.stops m p d q (λ w. word_same (said l) (said m) at (said_same (suc at) m l q) at (omega (arith, ap length z)))
