-- A text has one line at which reading stops.
use Prim.Native.Nat.{ℕ, zero, suc, ◌+◌, ◌-◌, ◌≤◌, ◌<◌}
use mathlib.Core.Path.{◌≡◌, refl, sym, ap, ◌∙◌, subst}
use mathlib.Core.List.{List, [], ◌++◌}
use native.Mathlib.Omega.{arith}
use lib.ListN.{length, take, get_or, length-append, length-take}
use lib.Seq.{take-take, get_or-take}
use Rattle.rules.specs.declared.Step.{Step}
use Rattle.rules.specs.Step.{step_bytes, pack_step}
use Rattle.notation.specs.Reading.{lines_of, said}
use Rattle.notation.specs.Grammar.{Blanks, Says, Lines, none, skip, step}
use Rattle.notation.specs.Faults.{Stop, unsaid, filled, First}
use Rattle.rules.proofs.Pack.Steps.{length-pack_step}
use Rattle.notation.proofs.Accepted.{accepted}
use Rattle.notation.proofs.Texts.{blank-end}
use Rattle.notation.proofs.Numbered.{says-one}
use mathlib.Core.Logic.{◌⊎◌, inl, inr, ⊎_elim}

-- a line that was passed: blank, or its step had room
data Passed (l : List ℕ) (long all : ℕ) : Type 0 where
  blankly : Blanks (said l) → Passed l long all
  saying : (p : Step) → Says (said l) p → long + step_bytes ≤ all → Passed l long all

record Upto (ls : List (List ℕ)) (m : List ℕ) (i : ℕ) : Type 0 where
  earlier : List ℕ
  lines : Lines (take i ls) earlier
  passed : Passed (get_or ls i []) (length earlier) (length m)

wider : (l : List ℕ) (a b c d : ℕ) → Passed l a b → (a + step_bytes ≤ b → c + step_bytes ≤ d) → Passed l c d
wider l a b c d (blankly x) f = blankly x
wider l a b c d (saying p u h) f = saying p u (f h)

upto : (ls : List (List ℕ)) (m : List ℕ) (i : ℕ) → Lines ls m → i < length ls → Upto ls m i
upto ls m i none h = absurd (omega arith)
upto ls m zero (skip l ls' _ a d) h = record { earlier = []; lines = none; passed = blankly a }
upto ls m (suc i) (skip l ls' _ a d) h =
    let k = upto ls' m i d (omega arith) in record { earlier = k.earlier; lines = skip l (take i ls') k.earlier a k.lines; passed = k.passed }
upto ls m zero (step l ls' p n _ u d e) h = record { earlier = []; lines = none; passed = saying p u (omega (arith, ap length e, length-append (pack_step p) n, length-pack_step p)) }
upto ls m (suc i) (step l ls' p n _ u d e) h =
    let k = upto ls' n i d (omega arith) in
    record {
      earlier = pack_step p ++ k.earlier;
      lines = step l (take i ls') p k.earlier (pack_step p ++ k.earlier) u k.lines refl;
      passed = wider (get_or ls' i []) (length k.earlier) (length n) (length (pack_step p ++ k.earlier)) (length m) k.passed
          (λ (z : length k.earlier + step_bytes ≤ length n). omega (arith, ap length e, length-append (pack_step p) n, length-append (pack_step p) k.earlier));
    }

not-both : (s : List ℕ) (p : Step) → Blanks s → Says s p → ⊥
not-both s p a d = omega (arith, blank-end s a, (accepted s p d).some)

-- lines say one list at most
pub lines-one : (ls : List (List ℕ)) (m n : List ℕ) → Lines ls m → Lines ls n → m ≡ n
lines-one ls m n none none = refl
lines-one ls m n (skip l ls' _ a d) (skip _ _ _ b e) = lines-one ls' m n d e
lines-one ls m n (skip l ls' _ a d) (step _ _ p _ _ u e f) = absurd (not-both (said l) p a u)
lines-one ls m n (step l ls' p _ _ u d f) (skip _ _ _ a e) = absurd (not-both (said l) p a u)
lines-one ls m n (step l ls' p x _ u d f) (step _ _ q z _ v e g) =
    f ∙ ap (λ (w : List ℕ). pack_step p ++ w) (lines-one ls' x z d e) ∙ ap (λ (w : Step). pack_step w ++ z) (says-one (said l) p q u v) ∙ sym g

module _ (most : ℕ) (t : List ℕ) where
  stops-not : (l : List ℕ) (long all at e : ℕ) → Stop most l long at e → Passed l long all → all ≤ most → ⊥
  stops-not l long all at e (unsaid a u r c) (blankly b) h = a b
  stops-not l long all at e (unsaid a u r c) (saying p d k) h = u p d
  stops-not l long all at e (filled p d k q f) (blankly b) h = not-both (said l) p b d
  stops-not l long all at e (filled p d k q f) (saying x y z) h = omega arith

  not-before : (n c e m d f : ℕ) → First most t n c e → First most t m d f → n < m → ⊥
  not-before n c e m d f x y h =
      let ls : List (List ℕ) = lines_of t in
      let k : Upto (take (m - 1) ls) y.list (n - 1) = upto (take (m - 1) ls) y.list (n - 1) y.before (omega (arith, x.from, x.up_to, y.up_to, length-take (m - 1) ls)) in
      let q : k.earlier ≡ x.list = lines-one (take (n - 1) ls) k.earlier x.list (subst (λ (v : List (List ℕ)). Lines v k.earlier) (take-take (n - 1) (m - 1) ls (omega arith)) k.lines) x.before in
      let z : Passed (get_or (take (m - 1) ls) (n - 1) []) (length x.list) (length y.list) = subst (λ (v : List ℕ). Passed (get_or (take (m - 1) ls) (n - 1) []) (length v) (length y.list)) q k.passed in
      stops-not (get_or ls (n - 1) []) (length x.list) (length y.list) (c - 1) e x.here
      (subst (λ (v : List ℕ). Passed v (length x.list) (length y.list)) (get_or-take (m - 1) ls (n - 1) [] (omega (arith, x.from))) z) y.fits

  -- There is one such line.
  pub line-one : (n c e m d f : ℕ) → First most t n c e → First most t m d f → n ≡ m
  line-one n c e m d f x y = go (sides n m)
    where
      sides : (a b : ℕ) → (a < b) ⊎ (b ≤ a)
      sides zero zero = inr (omega arith)
      sides zero (suc b) = inl (omega arith)
      sides (suc a) zero = inr (omega arith)
      sides (suc a) (suc b) = ⊎_elim (λ (h : a < b). inl (omega arith)) (λ (h : b ≤ a). inr (omega arith)) (sides a b)

      later : m ≤ n → (m < n) ⊎ (n ≤ m) → n ≡ m
      later h (inl k) = absurd (not-before m d f n c e y x k)
      later h (inr k) = omega arith

      go : (n < m) ⊎ (m ≤ n) → n ≡ m
      go (inl h) = absurd (not-before n c e m d f x y h)
      go (inr h) = later h (sides m n)
