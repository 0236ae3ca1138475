-- The loop over the lines of a text.
use Prim.Native.Nat.{ℕ, suc, ◌+◌, ◌-◌, ◌*◌, ◌/◌, ◌%◌, ◌≤◌, ◌<◌}
use mathlib.Core.Bool.{Bool, true, false, not}
use mathlib.Core.Path.{◌≡◌, refl, sym, ap, ◌∙◌, subst}
use mathlib.Core.Logic.{⊎_elim}
use mathlib.Core.List.{List, [], ◌∷◌, ◌++◌, append-nil}
use native.Mathlib.Numerals.{add-one}
use native.Mathlib.Nat.{add-zero, zero-add}
use native.Mathlib.Omega.{arith}
use borrow.Author.Tests.{le-leb, lt-leb, lt-ltb, le-ltb, eq-eqb, ne_eqb, leb-true}
use lib.Dec.{eqb, ltb, leb}
use lib.ListN.{length, take, drop, length-append, length-drop, length-take}
use Rattle.octets.specs.Bytes.{pick, put}
use Rattle.octets.specs.Numbers.{be}
use Rattle.octets.proofs.Chunks.{sides}
use Rattle.octets.proofs.Put.{put-nil, put-append}
use Rattle.octets.proofs.Tests.{pick-view, never}
use Rattle.rules.specs.declared.Step.{Step}
use Rattle.rules.specs.Step.{step_bytes, pack_step}
use Rattle.notation.specs.Reading.{Reader, reached, not_lf, not_hash, run, next, good, nothing, room, line_at, empty_step, lines_of, said, Progress, with_step, line_read, lines_read, progress, outcome, read}
use Rattle.std.proofs.Common.{Option, Some, None, Result, Ok, Err}
use Rattle.notation.specs.declared.Place.{Place}
use Rattle.notation.specs.declared.Lack.{Lack}
use Rattle.notation.specs.declared.Fault.{Fault}
use Rattle.notation.specs.Parsing.{answer_of, written_of, parsed_numbers, Answers}
use Rattle.notation.proofs.Expecting.{number-some, case-of-number}
use Rattle.parser.specs.Internal.Parsing.{Line, other_than, line_of, Gives, bytes_of, bytes_said, Stored, Gone}
use Rattle.rules.proofs.Pack.Steps.{length-pack_step}
use Rattle.notation.proofs.Within.{run-most, next-within, line-within}
use Rattle.notation.proofs.Lines.{reading}
use Rattle.parser.proofs.Cutting.{lines_cut, lines_none}
use Rattle.notation.proofs.Faults.{stays, goes_on}

-- ---- the end of a line, and of what it says

pub other-not : (b c : ℕ) → c ≡ b → other_than b c ≡ false
unfolding other_than
other-not b c e = rw (eq-eqb c b e)

pub other-so : (b c : ℕ) → (c ≡ b → ⊥) → other_than b c ≡ true
unfolding other_than
other-so b c e = rw (ne_eqb c b e)

to-LF : (l : List ℕ) → run (other_than 10) l ≡ run not_lf l
unfolding other_than not_lf
to-LF l = refl

to-hash : (l : List ℕ) → run (other_than 35) l ≡ run not_hash l
unfolding other_than not_hash
to-hash l = refl

module _ (l : List ℕ) (end : ℕ) (e : end ≡ 0 + run (other_than 35) (drop 0 l)) where
  pub said-inside : end ≤ length l
  said-inside = omega (arith, run-most (other_than 35) l)

  said-is : take end l ≡ said l
  unfolding said
  said-is = let z : end ≡ run (other_than 35) l = omega arith in ap (λ (n : ℕ). take n l) (z ∙ to-hash l)

  pub line-said : (free : Bool) (r : Result (Option Step) Lack) → Gives r (line_of free (take end l)) → Gives r (line_of free (said l))
  line-said free r g = subst (λ (x : List ℕ). Gives r (line_of free x)) said-is g

-- ---- one line

module _ (s : List ℕ) (free : Bool) (k : ℕ) (e : k ≡ next s 0) where
  pub bare-none : length s ≤ k → Gives (Ok None) (line_of free s)
  unfolding line_of
  bare-none h = rw (← e, le-ltb k (length s) h) (refl, refl)

  module _ (h : k < length s) where
    pub bare-fault : (l : Lack) → Answers (Err l) (line_at s k) → Gives (Err l) (line_of free s)
    unfolding line_of
    bare-fault l f =
        let n = number-some l.expected in
        let z : good (line_at s k) ≡ false = ne_eqb (line_at s k).expected 0 (λ q. absurd (omega (arith, f.1))) in
        rw (← e, lt-ltb k (length s) h, z) (ap suc f.0, f.1)

    module _ (r : Place) (f : line_at s k ≡ reached r.at r.step) where
      pub bare-full : free ≡ false → ((line_of free s).column ≡ suc k) × ((line_of free s).expected ≡ 12)
      unfolding line_of
      bare-full n = rw (← e, lt-ltb k (length s) h, f, n) (refl, refl)

      pub bare_step : free ≡ true → Gives (Ok (Some r.step)) (line_of free s)
      unfolding line_of
      bare_step n = rw (← e, lt-ltb k (length s) h, f, n) (refl, refl, refl)

-- only where there is room
said-free : (s : List ℕ) (free : Bool) → (line_of free s).said ≡ true → free ≡ true
unfolding line_of
said-free s free =
    pick-view (λ (y : Line). y.said ≡ true → free ≡ true) (ltb (next s 0) (length s)) _ _
    (λ a. pick-view (λ (y : Line). y.said ≡ true → free ≡ true) (good (line_at s (next s 0))) _ _
    (λ b. pick-view (λ (y : Line). y.said ≡ true → free ≡ true) free _ _ (λ f g. f) (λ f g. never (sym g)))
    (λ b g. never (sym g)))
    (λ a g. never (sym g))

-- ---- one step

pub packed : (p : Step) → ◌≡◌ {A = List ℕ} ((16 * p.kind + p.transactor) % 256 ∷ (16 * p.other + p.zero) % 256 ∷ p.message / 256 % 256 ∷ p.message % 256
    ∷ p.value / 256 / 256 / 256 % 256 ∷ p.value / 256 / 256 % 256 ∷ p.value / 256 % 256 ∷ p.value % 256 ∷ []) (pack_step p)
unfolding pack_step be
packed p = refl

length-bytes : (y : Line) → length (bytes_of y) ≡ pick y.said step_bytes 0
unfolding bytes_of
length-bytes y = go y.said
  where
    go : (t : Bool) → length (pick t (pack_step y.step) []) ≡ pick t step_bytes 0
    go true = length-pack_step y.step
    go false = refl

module _ (w : Bool) (l : List ℕ) (at : ℕ) (o : Option Step) where
  pub stored-none : o ≡ None → Stored w l l at (bytes_said o) at
  stored-none e = rw e (record { is = go w; ends = sym (add-zero at) })
    where
      go : (t : Bool) → l ≡ pick t (put at [] l) l
      go true = put-nil at l
      go false = refl

  module _ (p : Step) (e : o ≡ Some p) where
    pub stored-kept : w ≡ false → Stored w l l at (bytes_said o) (at + 8)
    stored-kept f = rw e (record { is = rw f; ends = rw (length-pack_step p) })

    pub stored-put : w ≡ true → (l' : List ℕ) → l' ≡ put at (pack_step p) l → Stored w l l' at (bytes_said o) (at + 8)
    stored-put f l' g = rw e (record { is = rw f g; ends = rw (length-pack_step p) })

    pub put-fits : (most : ℕ) → at + length (bytes_said o) ≤ most → at + 8 ≤ most
    put-fits most h = let k = rw e at h in omega (arith, length-pack_step p)

    pub put-room : (most : ℕ) → w ≡ true → (pick w most 0 ≤ length l) × (at + length (bytes_said o) ≤ most) → at + 8 ≤ length l
    put-room most f h =
        let a = rw f at h.0 in
        omega (arith, put-fits most h.1)

-- what the code gives is the line's
gives-bytes : (o : Option Step) (y : Line) → Gives (Ok o) y → bytes_said o ≡ bytes_of y
unfolding bytes_of
gives-bytes None y g = rw g.0
gives-bytes (Some p) y g = rw (g.0, g.1)

gives-none : (o : Option Step) (y : Line) → Gives (Ok o) y → y.expected ≡ 0
gives-none None y g = g.1
gives-none (Some p) y g = g.2

gives-some : (l : Lack) (y : Line) → Gives (Err l) y → 0 < y.expected
gives-some l y g = omega (arith, number-some l.expected, g.1)

-- a fault is in the line, or right behind it
line-columns : (free : Bool) (s : List ℕ) → (line_of free s).column ≤ suc (length s)
unfolding line_of
line-columns free s =
    let n = next-within s 0 (omega arith) in
    let l = line-within s (next s 0) n in
    pick-view (λ (y : Line). y.column ≤ suc (length s)) (ltb (next s 0) (length s)) _ _
    (λ a. pick-view (λ (y : Line). y.column ≤ suc (length s)) (good (line_at s (next s 0))) _ _
    (λ b. pick-view (λ (y : Line). y.column ≤ suc (length s)) free _ _ (λ f. omega arith) (λ f. omega arith))
    (λ b. omega arith))
    (λ a. omega arith)

length-said : (l : List ℕ) → length (said l) ≤ length l
unfolding said
length-said l = omega (arith, length-take (run not_hash l) l)

pub packed-put : (l l' : List ℕ) (at : ℕ) (p : Step) → l' ≡ put at ((16 * p.kind + p.transactor) % 256 ∷ (16 * p.other + p.zero) % 256 ∷ p.message / 256 % 256 ∷ p.message % 256
    ∷ p.value / 256 / 256 / 256 % 256 ∷ p.value / 256 / 256 % 256 ∷ p.value / 256 % 256 ∷ p.value % 256 ∷ []) l → l' ≡ put at (pack_step p) l
packed-put l l' at p e = e ∙ ap (λ (b : List ℕ). put at b l) (packed p)

-- ---- line by line

-- a progress with one line more
abbrev after : Progress → Line → Progress
after x y =
    pick (eqb y.expected 0)
    (record { list = x.list ++ bytes_of y; line = suc x.line; column = 0; expected = 0 })
    (record { list = x.list; line = x.line; column = y.column; expected = y.expected })

after-step : (most : ℕ) (r : Reader) (k : ℕ) (x : Progress) → with_step most k r x ≡ after x (
    pick (good r)
    (pick (leb (length x.list + step_bytes) most)
    (record { said = true; step = r.step; column = 0; expected = nothing })
    (record { said = false; step = r.step; column = suc k; expected = room }))
    (record { said = false; step = r.step; column = suc r.at; expected = r.expected }))
unfolding with_step bytes_of
after-step most r k x = go (good r) refl (leb (length x.list + step_bytes) most)
  where
    go : (t : Bool) → good r ≡ t → (f : Bool) → pick t (pick f (record { list = x.list ++ pack_step r.step; line = suc x.line; column = 0; expected = nothing })
        (record { list = x.list; line = x.line; column = suc k; expected = room })) (record { list = x.list; line = x.line; column = suc r.at; expected = r.expected })
        ≡ after x (pick t (pick f (record { said = true; step = r.step; column = 0; expected = nothing }) (record { said = false; step = r.step; column = suc k; expected = room }))
        (record { said = false; step = r.step; column = suc r.at; expected = r.expected }))
    go true e true = refl
    go true e false = refl
    go false e f = rw e

line_after : (most : ℕ) (s : List ℕ) (x : Progress) → line_read most s x ≡ after x (line_of (leb (length x.list + step_bytes) most) s)
unfolding line_read line_of bytes_of
line_after most s x = go (ltb (next s 0) (length s)) (after-step most (line_at s (next s 0)) (next s 0) x)
  where
    go : (t : Bool) → with_step most (next s 0) (line_at s (next s 0)) x ≡ after x (
        pick (good (line_at s (next s 0)))
        (pick (leb (length x.list + step_bytes) most)
        (record { said = true; step = (line_at s (next s 0)).step; column = 0; expected = nothing })
        (record { said = false; step = (line_at s (next s 0)).step; column = suc (next s 0); expected = room }))
        (record { said = false; step = (line_at s (next s 0)).step; column = suc (line_at s (next s 0)).at; expected = (line_at s (next s 0)).expected }))
        → pick t (with_step most (next s 0) (line_at s (next s 0)) x) (record { list = x.list; line = suc x.line; column = 0; expected = nothing })
        ≡ after x (pick t (
        pick (good (line_at s (next s 0)))
        (pick (leb (length x.list + step_bytes) most)
        (record { said = true; step = (line_at s (next s 0)).step; column = 0; expected = nothing })
        (record { said = false; step = (line_at s (next s 0)).step; column = suc (next s 0); expected = room }))
        (record { said = false; step = (line_at s (next s 0)).step; column = suc (line_at s (next s 0)).at; expected = (line_at s (next s 0)).expected }))
        (record { said = false; step = empty_step 0; column = 0; expected = nothing }))
    go true e = e
    go false e = λ i. record { list = sym (append-nil x.list) i; line = suc x.line; column = 0; expected = 0 }

-- the text up to place from is read: list, of at bytes; line comes next
pub record Upto (most : ℕ) (text before now : List ℕ) (write : Bool) (from at line : ℕ) : Type 0 where
  pub list : List ℕ
  pub long : length list ≡ at
  pub fits : at ≤ most
  pub place : from ≤ suc (length text)
  pub number : line ≤ suc from
  pub wide : length now ≡ length before
  pub is : now ≡ pick write (put 0 list before) before
  pub rest : lines_read most (lines_of (drop from text)) (reading list line) ≡ progress most text

module _ (most : ℕ) (text before : List ℕ) (write : Bool) where
  pub upto-start : Upto most text before before write 0 0 1
  unfolding progress
  upto-start = record {
    list = [];
    long = refl;
    fits = omega arith;
    place = omega arith;
    number = omega arith;
    wide = refl;
    is = go write;
    rest = refl;
  }
    where
      go : (t : Bool) → before ≡ pick t (put 0 [] before) before
      go true = put-nil 0 before
      go false = refl

  free-same : (n : ℕ) → n ≤ most → leb 8 (most - n) ≡ leb (n + step_bytes) most
  free-same n h = ⊎_elim
      (λ (p : most - n < 8). lt-leb 8 (most - n) p ∙ sym (lt-leb (n + 8) most (omega arith)))
      (λ (p : 8 ≤ most - n). le-leb 8 (most - n) p ∙ sym (le-leb (n + 8) most (omega arith)))
      (sides (most - n) 8)

  module _ (now : List ℕ) (from at line : ℕ) (u : Upto most text before now write from at line) where
    pub upto-end : length text ≤ from → Gone write before now (progress most text) (Ok at)
    unfolding lines_read
    upto-end h =
        let e : reading u.list line ≡ progress most text = ap (λ (ls : List (List ℕ)). lines_read most ls (reading u.list line)) (sym (lines_none text from h)) ∙ u.rest in
        subst (λ (x : Progress). Gone write before now x (Ok at)) e (record { is = u.is; told = (sym u.long, refl) })

    module _ (h : from < length text) (end : ℕ) (e : end ≡ from + run (other_than 10) (drop from text)) where
      abbrev y : Line
      y = line_of (leb 8 (most - at)) (said (take (end - from) (drop from text)))

      pub end-inside : end ≤ length text
      end-inside = omega (arith, run-most (other_than 10) (drop from text), length-drop from text)

      x : Progress
      x = reading u.list line

      -- the line, and the text after it
      turned : lines_read most (lines_of (drop (end + 1) text)) (after x y) ≡ progress most text
      unfolding x
      turned =
          let a : end ≡ from + run not_lf (drop from text) = e ∙ ap (λ (n : ℕ). from + n) (to-LF (drop from text)) in
          let l : List ℕ = take (end - from) (drop from text) in
          let b : y ≡ line_of (leb (length u.list + step_bytes) most) (said l) =
          ap (λ (t : Bool). line_of t (said l)) (free-same at u.fits ∙ ap (λ (n : ℕ). leb (n + step_bytes) most) (sym u.long)) in
          ap (lines_read most (lines_of (drop (end + 1) text))) (ap (after x) b ∙ sym (line_after most (said l) x))
          ∙ sym (goes_on most l (lines_of (drop (end + 1) text)) x refl)
          ∙ ap (λ (ls : List (List ℕ)). lines_read most ls x) (sym (lines_cut text from end h a))
          ∙ u.rest

      pub upto-fault : (l : Lack) → Gives (Err l) y → Gone write before now (progress most text) (Err (record { line = line; column = l.at + 1; expected = l.expected }))
      unfolding x
      upto-fault l g =
          let z : Progress = record { list = u.list; line = line; column = y.column; expected = y.expected } in
          let n = gives-some l y g in
          let a : after x y ≡ z = rw (ne_eqb y.expected 0 (λ q. absurd (omega arith))) in
          let b : z ≡ progress most text = sym (stays most (lines_of (drop (end + 1) text)) z n) ∙ ap (lines_read most (lines_of (drop (end + 1) text))) (sym a) ∙ turned in
          let f : Fault = record { line = line; column = l.at + 1; expected = l.expected } in
          subst (λ (v : Progress). Gone write before now v (Err f)) b
          (record { is = u.is; told = (refl, add-one l.at ∙ sym g.0, g.1) })

      -- a fault is in the line, or right behind it
      pub lack-inside : (l : Lack) → Gives (Err l) y → l.at ≤ length text
      lack-inside l g =
          let m : List ℕ = take (end - from) (drop from text) in
          let c = line-columns (leb 8 (most - at)) (said m) in
          let d = length-said m in
          let k = length-take (end - from) (drop from text) in
          omega (arith, c, d, k, length-drop from text, g.0)

      turn-room : pick y.said (at + 8) at ≤ most
      turn-room = go y.said refl
        where
          go : (t : Bool) → y.said ≡ t → pick t (at + 8) at ≤ most
          go true g =
              let k = said-free (said (take (end - from) (drop from text))) (leb 8 (most - at)) g in
              omega (arith, leb-true 8 (most - at) k, u.fits)
          go false g = u.fits

      pub turn-wide : (k : ℕ) → k ≤ length before → k ≤ length now
      turn-wide k b = omega (arith, u.wide)

      bytes_fit : at + length (bytes_of y) ≤ most
      bytes_fit = go y.said (length-bytes y) turn-room
        where
          go : (t : Bool) → length (bytes_of y) ≡ pick t step_bytes 0 → pick t (at + 8) at ≤ most → at + length (bytes_of y) ≤ most
          go true a b = omega arith
          go false a b = omega arith

      pub said-fits : (o : Option Step) → Gives (Ok o) y → at + length (bytes_said o) ≤ most
      said-fits o g = rw (gives-bytes o y g) bytes_fit

      again : y.expected ≡ 0 → pick write most 0 ≤ length before → (now' : List ℕ) (at' : ℕ) → length now' ≡ length now → Stored write now now' at (bytes_of y) at'
          → Upto most text before now' write (end + 1) at' (line + 1)
      unfolding x
      again g w now' at' s c =
          let b : reading (u.list ++ bytes_of y) (suc line) ≡ after x y = rw (eq-eqb y.expected 0 g) in
          record {
            list = u.list ++ bytes_of y;
            long = length-append u.list (bytes_of y) ∙ ap (λ (n : ℕ). n + length (bytes_of y)) u.long ∙ sym c.ends;
            fits = omega (arith, bytes_fit, c.ends);
            place = omega (arith, end-inside);
            number = omega (arith, u.number, e);
            wide = s ∙ u.wide;
            is = c.is ∙ go write w u.is;
            rest = ap (λ (n : ℕ). lines_read most (lines_of (drop (end + 1) text)) (reading (u.list ++ bytes_of y) n)) (add-one line) ∙ ap (lines_read most (lines_of (drop (end + 1) text))) b ∙ turned;
          }
        where
          go : (t : Bool) → pick t most 0 ≤ length before → now ≡ pick t (put 0 u.list before) before → pick t (put at (bytes_of y) now) now ≡ pick t (put 0 (u.list ++ bytes_of y) before) before
          go true m i =
              ap (put at (bytes_of y)) i ∙ ap (λ (n : ℕ). put n (bytes_of y) (put 0 u.list before)) (sym u.long ∙ sym (zero-add (length u.list)))
              ∙ put-append 0 u.list (bytes_of y) before (omega (arith, bytes_fit, u.long))
          go false m i = i

      pub upto-again : (o : Option Step) → Gives (Ok o) y → pick write most 0 ≤ length before → (now' : List ℕ) (at' : ℕ) → length now' ≡ length now → Stored write now now' at (bytes_said o) at'
          → Upto most text before now' write (end + 1) at' (line + 1)
      upto-again o g w now' at' s c = again (gives-none o y g) w now' at' s (subst (λ (b : List ℕ). Stored write now now' at b at') (gives-bytes o y g) c)

pub cut_inside : (text : List ℕ) (from end : ℕ) → from < length text → end ≡ from + run (other_than 10) (drop from text) → end ≤ length text
cut_inside text from end h e = omega (arith, run-most (other_than 10) (drop from text), length-drop from text)

-- ---- the answer

-- the text read into before, as parse answers and leaves it
abbrev pub Parses : List ℕ → List ℕ → List ℕ → Result ℕ Fault → Type 0
Parses text before now r = (parsed_numbers r ≡ parsed_numbers (answer_of (read (length before) text))) × (now ≡ written_of (read (length before) text) before)

module _ (text before now : List ℕ) where
  pub parsed-fault : (f : Fault) → Gone false before now (progress (length before) text) (Err f) → Parses text before now (Err f)
  unfolding read outcome
  parsed-fault f g =
      let n = number-some f.expected in
      let z : eqb (progress (length before) text).expected nothing ≡ false = ne_eqb (progress (length before) text).expected 0 (λ q. absurd (omega (arith, g.told.2))) in
      rw (z, ← g.told.0, ← g.told.1, g.told.2, case-of-number f.expected) (refl, g.is)

  pub parsed-steps : (n : ℕ) → Gone false before now (progress (length before) text) (Ok n) → (now' : List ℕ) (m : ℕ) → Gone true now now' (progress (length before) text) (Ok m) → Parses text before now' (Ok (m / 8))
  unfolding read outcome
  parsed-steps n g now' m h =
      let b : eqb (progress (length before) text).expected nothing ≡ true = eq-eqb (progress (length before) text).expected 0 g.told.1 in
      rw (b, h.told.0) (refl, h.is ∙ ap (put 0 (progress (length before) text).list) g.is)

  pub parsed-never : (n : ℕ) → Gone false before now (progress (length before) text) (Ok n) → (now' : List ℕ) (f : Fault) → Gone true now now' (progress (length before) text) (Err f) → ⊥
  parsed-never n g now' f h = absurd (omega (arith, number-some f.expected, g.told.1, h.told.2))
