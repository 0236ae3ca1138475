-- Whole texts: the reader gives a list exactly where the grammar lets write the text for it; a fault is at the first line that says no step.
use Prim.Native.Nat.{ℕ, suc, ◌+◌, ◌-◌, ◌≤◌, ◌<◌}
use mathlib.Core.Bool.{Bool, true, false}
use mathlib.Core.Path.{◌≡◌, refl, sym, ap, ◌∙◌, subst}
use mathlib.Core.Logic.{◌↔◌}
use mathlib.Core.List.{List, [], ◌∷◌, ◌++◌, append_assoc, append-nil}
use native.Mathlib.Nat.{add-zero}
use native.Mathlib.Omega.{arith}
use borrow.Author.Tests.{lt-ltb, le-ltb, le-leb, ltb-true, ltb-false, leb-true, leb-false, eqb-true, eqb-false, eq-eqb}
use lib.Dec.{eqb, ltb, leb}
use lib.ListN.{length, take, get_or, length-append}
use Rattle.octets.specs.Bytes.{pick}
use Rattle.octets.proofs.Tests.{pick-view}
use Rattle.rules.specs.declared.Step.{Step}
use Rattle.rules.specs.Step.{step_bytes, pack_step}
use Rattle.notation.specs.Reading.{blank, run, next, nothing, room, good, line_at, lines_of, said, Progress, with_step, line_read, lines_read, start, progress, steps, fault, outcome, read}
use Rattle.notation.specs.Grammar.{Blanks, Says, Lines, none, skip, step}
use Rattle.notation.specs.Faults.{Next, Lacking, FirstByte, Stop, unsaid, filled, First}
use Rattle.notation.proofs.Words.{stops, run-append}
use Rattle.notation.proofs.Within.{line-within}
use Rattle.rules.proofs.Pack.Steps.{length-pack_step}
use Rattle.notation.proofs.Lines.{reading}
use Rattle.notation.proofs.Faults.{stays, goes_on}
use Rattle.notation.proofs.Accepted.{accepted}
use Rattle.notation.proofs.Sound.{sound, tail-blank}
use Rattle.notation.proofs.Columns.{kind-goes, line-goes}
use Rattle.notation.proofs.Lacking.{line-lacks}
use Rattle.notation.proofs.Expecting.{line-roomy}
use Rattle.notation.proofs.Starting.{Split, line-split}
use Rattle.notation.proofs.Stopping.{Stops, line-stops, line-column, line_first, first_byte}

-- ---- one line

-- a line of blanks is passed to its end
pub blank-end : (s : List ℕ) → Blanks s → next s 0 ≡ length s
unfolding next stops
blank-end s a =
    let e : run blank s ≡ length s = ap (run blank) (sym (append-nil s)) ∙ run-append blank s [] a refl in
    omega arith

-- column c of the line s without comment, from 1: where it goes on no more, or its first byte if there is no room
record Before (s : List ℕ) (c e : ℕ) : Type 0 where
  at : ℕ
  is : c ≡ suc at
  within : at ≤ length s
  whole : (e ≡ room → ⊥) → Split s at
  goes : Next (take at s)
  lacks : (e ≡ room → ⊥) → Lacking s at e
  stops : (e ≡ room → ⊥) → Stops s at e
  first : e ≡ room → FirstByte s at

-- what a line without comment does: nothing, one step more, or a fault at it
data Result (most : ℕ) (s : List ℕ) (x y : Progress) : Type 0 where
  blank_line : Blanks s → y ≡ reading x.list (suc x.line) → Result most s x y
  step_line : (p : Step) → Says s p → length x.list + step_bytes ≤ most → y ≡ reading (x.list ++ pack_step p) (suc x.line) → Result most s x y
  full_line : (p : Step) → Says s p → most < length x.list + step_bytes → y.list ≡ x.list → y.line ≡ x.line → y.expected ≡ room → Before s y.column y.expected → Result most s x y
  bad_line : (Blanks s → ⊥) → ((p : Step) → Says s p → ⊥) → y.list ≡ x.list → y.line ≡ x.line → (y.expected ≡ 0 → ⊥) → (y.expected ≡ room → ⊥) → Before s y.column y.expected → Result most s x y

module _ (most : ℕ) (s : List ℕ) (x : Progress) where
  not-blank : next s 0 < length s → Blanks s → ⊥
  not-blank h a = omega (arith, blank-end s a)

  not-said : ((line_at s (next s 0)).expected ≡ 0 → ⊥) → (p : Step) → Says s p → ⊥
  not-said n p d = n (accepted s p d).good

  step-view : next s 0 < length s → Result most s x (with_step most (next s 0) (line_at s (next s 0)) x)
  unfolding with_step
  step-view h =
      pick-view (Result most s x) (good (line_at s (next s 0))) _ _
      (λ g.
      let d = sound s (eqb-true (line_at s (next s 0)).expected 0 g) in
      pick-view (Result most s x) (leb (length x.list + step_bytes) most) _ _
      (λ e. step_line (line_at s (next s 0)).step d (leb-true (length x.list + step_bytes) most e) refl)
      (λ e. full_line (line_at s (next s 0)).step d (leb-false (length x.list + step_bytes) most e) refl refl refl (record { at = next s 0; is = refl; within = omega arith; whole = λ n. absurd (n refl); goes = kind-goes s; lacks = λ n. absurd (n refl); stops = λ n. absurd (n refl); first = λ q. first_byte s h })))
      (λ g. bad_line (not-blank h) (not-said (eqb-false (line_at s (next s 0)).expected 0 g)) refl refl (eqb-false (line_at s (next s 0)).expected 0 g) (line-roomy s (next s 0))
      (record {
        at = (line_at s (next s 0)).at;
        is = refl;
        within = line-within s (next s 0) (omega arith);
        whole = λ n. line-split s;
        goes = line-goes s (eqb-false (line_at s (next s 0)).expected 0 g);
        lacks = λ n. line-lacks s (next s 0) (eqb-false (line_at s (next s 0)).expected 0 g);
        stops = λ n. line-stops s (eqb-false (line_at s (next s 0)).expected 0 g);
        first = λ q. absurd (line-roomy s (next s 0) q);
      }))

  line_view : Result most s x (line_read most s x)
  unfolding line_read
  line_view =
      pick-view (Result most s x) (ltb (next s 0) (length s)) _ _
      (λ e. step-view (ltb-true (next s 0) (length s) e))
      (λ e. blank_line (tail-blank s 0 (ltb-false (next s 0) (length s) e)) refl)

  blank-read : Blanks s → line_read most s x ≡ reading x.list (suc x.line)
  unfolding line_read
  blank-read a = rw (blank-end s a, le-ltb (length s) (length s) (omega arith))

  step-read : (p : Step) → Says s p → length x.list + step_bytes ≤ most → line_read most s x ≡ reading (x.list ++ pack_step p) (suc x.line)
  unfolding line_read with_step
  step-read p d h =
      let t = accepted s p d in
      rw (lt-ltb (next s 0) (length s) t.some, eq-eqb (line_at s (next s 0)).expected 0 t.good, le-leb (length x.list + step_bytes) most h, t.is)

-- ---- all lines

module _ (most : ℕ) where
  lines-said : (ls : List (List ℕ)) (m acc : List ℕ) (k : ℕ) → Lines ls m → length acc + length m ≤ most → lines_read most ls (reading acc k) ≡ reading (acc ++ m) (k + length ls)
  unfolding lines_read
  lines-said ls m acc k none h = λ i. reading (sym (append-nil acc) i) (sym (add-zero k) i)
  lines-said ls m acc k (skip l ls' _ a d) h =
      let z : suc k + length ls' ≡ k + suc (length ls') = omega arith in
      goes_on most l ls' (reading acc k) refl
      ∙ ap (lines_read most ls') (blank-read most (said l) (reading acc k) a)
      ∙ lines-said ls' m acc (suc k) d h
      ∙ (λ i. reading (acc ++ m) (z i))
  lines-said ls m acc k (step l ls' p n _ c d e) h =
      let z : suc k + length ls' ≡ k + suc (length ls') = omega arith in
      let f : length m ≡ 8 + length n = ap length e ∙ length-append (pack_step p) n ∙ ap (λ (j : ℕ). j + length n) (length-pack_step p) in
      let g : length (acc ++ pack_step p) ≡ length acc + 8 = length-append acc (pack_step p) ∙ ap (λ (j : ℕ). length acc + j) (length-pack_step p) in
      let q : (acc ++ pack_step p) ++ n ≡ acc ++ m = append_assoc acc (pack_step p) n ∙ ap (λ (j : List ℕ). acc ++ j) (sym e) in
      goes_on most l ls' (reading acc k) refl
      ∙ ap (lines_read most ls') (step-read most (said l) (reading acc k) p c (omega arith))
      ∙ lines-said ls' n (acc ++ pack_step p) (suc k) d (omega arith)
      ∙ (λ i. reading (q i) (z i))

-- y is what the lines ls give from the list acc and line number k on: a list, or a fault at the first line that says no step
data Outcome (most : ℕ) (ls : List (List ℕ)) (acc : List ℕ) (k : ℕ) (y : Progress) : Type 0 where
  whole : (m : List ℕ) → Lines ls m → length acc + length m ≤ most → y ≡ reading (acc ++ m) (k + length ls) → Outcome most ls acc k y
  full : (i : ℕ) (m : List ℕ) (p : Step) → i < length ls → Lines (take i ls) m → y.list ≡ acc ++ m → y.line ≡ k + i → Says (said (get_or ls i [])) p
      → most < length acc + length m + step_bytes → y.expected ≡ room → Before (said (get_or ls i [])) y.column y.expected → length acc + length m ≤ most → Outcome most ls acc k y
  bad : (i : ℕ) (m : List ℕ) → i < length ls → Lines (take i ls) m → y.list ≡ acc ++ m → y.line ≡ k + i → (Blanks (said (get_or ls i [])) → ⊥)
      → ((p : Step) → Says (said (get_or ls i [])) p → ⊥) → (y.expected ≡ 0 → ⊥) → (y.expected ≡ room → ⊥) → Before (said (get_or ls i [])) y.column y.expected → length acc + length m ≤ most → Outcome most ls acc k y

module _ (most : ℕ) (l : List ℕ) (ls : List (List ℕ)) (acc : List ℕ) (k : ℕ) (y : Progress) where
  later-skip : Blanks (said l) → Outcome most ls acc (suc k) y → Outcome most (l ∷ ls) acc k y
  later-skip a (whole m d h e) = let z : suc k + length ls ≡ k + suc (length ls) = omega arith in whole m (skip l ls m a d) h (e ∙ (λ i. reading (acc ++ m) (z i)))
  later-skip a (full i m p b d e f c h g o w) = full (suc i) m p (omega arith) (skip l (take i ls) m a d) e (omega arith) c h g o w
  later-skip a (bad i m b d e f g c h r o w) = bad (suc i) m (omega arith) (skip l (take i ls) m a d) e (omega arith) g c h r o w

  later-step : (p : Step) → Says (said l) p → Outcome most ls (acc ++ pack_step p) (suc k) y → Outcome most (l ∷ ls) acc k y
  later-step p u (whole m d h e) =
      let z : suc k + length ls ≡ k + suc (length ls) = omega arith in
      whole (pack_step p ++ m) (step l ls p m (pack_step p ++ m) u d refl)
      (omega (arith, length-append (pack_step p) m, length-append acc (pack_step p)))
      (e ∙ (λ i. reading (append_assoc acc (pack_step p) m i) (z i)))
  later-step p u (full i m q b d e f c h g o w) =
      full (suc i) (pack_step p ++ m) q (omega arith) (step l (take i ls) p m (pack_step p ++ m) u d refl) (e ∙ append_assoc acc (pack_step p) m) (omega arith) c
      (omega (arith, length-append (pack_step p) m, length-append acc (pack_step p))) g o (omega (arith, length-append (pack_step p) m, length-append acc (pack_step p)))
  later-step p u (bad i m b d e f g c h r o w) =
      bad (suc i) (pack_step p ++ m) (omega arith) (step l (take i ls) p m (pack_step p ++ m) u d refl) (e ∙ append_assoc acc (pack_step p) m) (omega arith) g c h r o (omega (arith, length-append (pack_step p) m, length-append acc (pack_step p)))

module _ (most : ℕ) where
  first-here : (l : List ℕ) (ls : List (List ℕ)) (acc : List ℕ) (k : ℕ) (y : Progress) → Result most (said l) (reading acc k) y
      → ((acc' : List ℕ) → length acc' ≤ most → Outcome most ls acc' (suc k) (lines_read most ls (reading acc' (suc k)))) → length acc ≤ most → Outcome most (l ∷ ls) acc k (lines_read most ls y)
  first-here l ls acc k y (blank_line a e) ih b =
      subst (λ (v : Progress). Outcome most (l ∷ ls) acc k (lines_read most ls v)) (sym e) (later-skip most l ls acc k (lines_read most ls (reading acc (suc k))) a (ih acc b))
  first-here l ls acc k y (step_line p u h e) ih b =
      subst (λ (v : Progress). Outcome most (l ∷ ls) acc k (lines_read most ls v)) (sym e)
      (later-step most l ls acc k (lines_read most ls (reading (acc ++ pack_step p) (suc k))) p u (ih (acc ++ pack_step p) (omega (arith, length-append acc (pack_step p), length-pack_step p))))
  first-here l ls acc k y (full_line p u h d f e o) ih b =
      subst (Outcome most (l ∷ ls) acc k) (sym (stays most ls y (omega arith)))
      (full 0 [] p (omega arith) none (d ∙ sym (append-nil acc)) (omega arith) u (omega arith) e o (omega arith))
  first-here l ls acc k y (bad_line a u d f n r o) ih b =
      subst (Outcome most (l ∷ ls) acc k) (sym (stays most ls y (let c : y.expected ≡ 0 → ⊥ = n in omega arith)))
      (bad 0 [] (omega arith) none (d ∙ sym (append-nil acc)) (omega arith) a u n r o (omega arith))

  lines-outcome : (ls : List (List ℕ)) (acc : List ℕ) (k : ℕ) → length acc ≤ most → Outcome most ls acc k (lines_read most ls (reading acc k))
  unfolding lines_read
  lines-outcome [] acc k b = whole [] none (omega arith) (λ i. reading (sym (append-nil acc) i) (sym (add-zero k) i))
  lines-outcome (l ∷ ls) acc k b =
      subst (Outcome most (l ∷ ls) acc k) (sym (goes_on most l ls (reading acc k) refl))
      (first-here l ls acc k (line_read most (said l) (reading acc k)) (line_view most (said l) (reading acc k)) (λ a h. lines-outcome ls a (suc k) h) b)

-- ---- the theorems

module _ (most : ℕ) (t : List ℕ) where
  all_lines : Outcome most (lines_of t) [] 1 (progress most t)
  unfolding progress
  all_lines = lines-outcome most (lines_of t) [] 1 (omega arith)

  no-fault : (y : Progress) (l : List ℕ) → outcome y ≡ steps l → (y.expected ≡ 0) × (y.list ≡ l)
  unfolding outcome
  no-fault y l = go (eqb y.expected nothing) refl
    where
      go : (b : Bool) → eqb y.expected nothing ≡ b → pick b (steps y.list) (fault y.line y.column y.expected) ≡ steps l → (y.expected ≡ 0) × (y.list ≡ l)
      go true h f = let z : y.list ≡ l = cc in (eqb-true y.expected 0 h, z)
      go false h f = let z : ◌≡◌ {A = ℕ} 0 1 = cc in absurd (omega arith)

  a-fault : (y : Progress) (n c e : ℕ) → outcome y ≡ fault n c e → (y.expected ≡ 0 → ⊥) × (y.line ≡ n) × (y.column ≡ c) × (y.expected ≡ e)
  unfolding outcome
  a-fault y n c e = go (eqb y.expected nothing) refl
    where
      go : (b : Bool) → eqb y.expected nothing ≡ b → pick b (steps y.list) (fault y.line y.column y.expected) ≡ fault n c e → (y.expected ≡ 0 → ⊥) × (y.line ≡ n) × (y.column ≡ c) × (y.expected ≡ e)
      go true h f = let z : ◌≡◌ {A = ℕ} 0 1 = cc in absurd (omega arith)
      go false h f = let a : y.line ≡ n = cc in let d : y.column ≡ c = cc in let b : y.expected ≡ e = cc in (eqb-false y.expected 0 h, a, d, b)

  said_of : (l : List ℕ) (y : Progress) → Outcome most (lines_of t) [] 1 y → y.expected ≡ 0 → y.list ≡ l → Lines (lines_of t) l × (length l ≤ most)
  said_of l y (whole m d h e) z q =
      let f : m ≡ l = ap (λ (v : Progress). v.list) (sym e) ∙ q in
      (subst (Lines (lines_of t)) f d, subst (λ (v : List ℕ). length v ≤ most) f (omega arith))
  said_of l y (full i m p b d e f c h g o w) z q = absurd (omega arith)
  said_of l y (bad i m b d e f g c n r o w) z q = absurd (n z)

  -- A text gives a list exactly where its lines say it, and it fits.
  pub text_says : (l : List ℕ) → (read most t ≡ steps l) ↔ (Lines (lines_of t) l × (length l ≤ most))
  unfolding read progress outcome
  text_says l = (forth, back)
    where
      forth : outcome (lines_read most (lines_of t) start) ≡ steps l → Lines (lines_of t) l × (length l ≤ most)
      forth e = let k = no-fault (lines_read most (lines_of t) start) l e in said_of l (lines_read most (lines_of t) start) all_lines k.0 k.1

      back : Lines (lines_of t) l × (length l ≤ most) → outcome (lines_read most (lines_of t) start) ≡ steps l
      back d = ap outcome (lines-said most (lines_of t) l [] 1 d.0 (omega (arith, d.1)))

  -- of a whole line
  stop-bad : (l : List ℕ) (long c e : ℕ) → (Blanks (said l) → ⊥) → ((p : Step) → Says (said l) p → ⊥) → (e ≡ room → ⊥) → Before (said l) c e → Stop most l long (c - 1) e
  stop-bad l long c e a u r o =
      let q : o.at ≡ c - 1 = omega (arith, o.is) in
      subst (λ (k : ℕ). Stop most l long k e) q (unsaid a u r (line-column l o.at o.within e (o.whole r) o.goes (o.stops r) (o.lacks r)))

  stop-full : (l : List ℕ) (long c e : ℕ) (p : Step) → Says (said l) p → most < long + step_bytes → e ≡ room → Before (said l) c e → Stop most l long (c - 1) e
  stop-full l long c e p u h r o =
      let q : o.at ≡ c - 1 = omega (arith, o.is) in
      subst (λ (k : ℕ). Stop most l long k e) q (filled p u h r (line_first l o.at o.within (o.first r)))

  first-here-is : (n c e : ℕ) (y : Progress) (i : ℕ) (m : List ℕ) → i < length (lines_of t) → y.line ≡ 1 + i → Lines (take i (lines_of t)) m → y.line ≡ n → y.column ≡ c → y.expected ≡ e
      → 1 ≤ y.column → length m ≤ most → Stop most (get_or (lines_of t) i []) (length m) (y.column - 1) y.expected → First most t n c e
  first-here-is n c e y i m u f d a w b g v k =
      let j : i ≡ n - 1 = omega arith in
      record {
        from = omega arith;
        up_to = omega arith;
        column = omega arith;
        list = m;
        before = subst (λ (v : ℕ). Lines (take v (lines_of t)) m) j d;
        fits = v;
        here = subst (λ (v : ℕ). Stop most (get_or (lines_of t) v []) (length m) (c - 1) e) j
            (subst (λ (v : ℕ). Stop most (get_or (lines_of t) i []) (length m) (c - 1) v) b
            (subst (λ (v : ℕ). Stop most (get_or (lines_of t) i []) (length m) (v - 1) y.expected) w k));
      }

  first-of : (n c e : ℕ) (y : Progress) → Outcome most (lines_of t) [] 1 y → (y.expected ≡ 0 → ⊥) → y.line ≡ n → y.column ≡ c → y.expected ≡ e → First most t n c e
  first-of n c e y (whole m d h q) z a w b = absurd (z (ap (λ (v : Progress). v.expected) q))
  first-of n c e y (full i m p u d q f k h g o v) z a w b =
      first-here-is n c e y i m u f d a w b (omega (arith, o.is)) (omega arith) (stop-full (get_or (lines_of t) i []) (length m) y.column y.expected p k (omega arith) g o)
  first-of n c e y (bad i m u d q f g k x r o v) z a w b =
      first-here-is n c e y i m u f d a w b (omega (arith, o.is)) (omega arith) (stop-bad (get_or (lines_of t) i []) (length m) y.column y.expected g k r o)

  -- A fault is at the first line that says neither a step nor nothing, or for whose step there is no room, and its column where that line
  -- goes on no more to one that says a step, or its first byte.
  pub fault-first : (n c e : ℕ) → read most t ≡ fault n c e → First most t n c e
  unfolding read progress
  fault-first n c e f =
      let k = a-fault (lines_read most (lines_of t) start) n c e f in
      first-of n c e (lines_read most (lines_of t) start) all_lines k.0 k.1 k.2 k.3

-- More room changes nothing but the fault that there is too little.
pub read-room : (m n : ℕ) (t l : List ℕ) → read m t ≡ steps l → length l ≤ n → read n t ≡ steps l
read-room m n t l e h = (text_says n t l).1 (((text_says m t l).0 e).0, h)
