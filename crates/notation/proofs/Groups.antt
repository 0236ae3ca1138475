-- The volume of a sign, read back.
use Prim.Native.Nat.{ℕ, zero, suc, ◌+◌, ◌-◌, ◌*◌, ◌/◌, ◌%◌, ◌^◌, ◌≤◌, ◌<◌}
use mathlib.Core.Bool.{Bool, true, false, not}
use mathlib.Core.Path.{◌≡◌, refl, sym, ap, ◌∙◌, subst}
use mathlib.Core.List.{List, [], ◌∷◌, ◌++◌, append_assoc}
use native.Mathlib.Nat.{pow-succ', mod-lt, mod-eq_of_lt, add-zero}
use native.Mathlib.Omega.{arith}
use borrow.Author.Tests.{eqb-true, eqb-false, ne_eqb, leb-true}
use lib.Arith.{mod-mul}
use lib.Pow.{pow_pos}
use lib.Dec.{eqb, leb}
use lib.ListN.{length, drop, get_or, length-append, length-drop}
use Rattle.octets.specs.Bytes.{pick, ◌or◌}
use Rattle.octets.proofs.Zero.{both}
use Rattle.rules.specs.declared.Step.{Step}
use Rattle.rules.specs.Refusals.{named, group_bits}
use Rattle.rules.proofs.Bits.{named_past}
use Rattle.notation.specs.Notation.{decimal, places, members, group_text, message_field}
use Rattle.notation.specs.Reading.{Reader, blank, in_word, all, is_digit, reached, most_of, with_field, with_member, member_at, comma_next, one_more, more_members, closed, members_at, group_at}
use Rattle.notation.proofs.Words.{all_weaker, stops, past, past-byte, byte-here, word-here, next_here}
use Rattle.notation.proofs.Numerals.{decimal-digits, decimal-some, decimal-back, decimal-number}

-- ---- digits are bytes of words

pub digit-word : (c : ℕ) → is_digit c ≡ true → in_word c ≡ true
unfolding is_digit in_word blank
digit-word c e =
    let h = both (leb 48 c) (leb c 57) e in
    let a : 48 ≤ c = leb-true 48 c h.0 in
    let b : c ≤ 57 = leb-true c 57 h.1 in
    rw (ne_eqb c 32 (λ (q : c ≡ 32). omega arith), ne_eqb c 9 (λ (q : c ≡ 9). omega arith), ne_eqb c 13 (λ (q : c ≡ 13). omega arith), ne_eqb c 123 (λ (q : c ≡ 123). omega arith), ne_eqb c 44 (λ (q : c ≡ 44). omega arith), ne_eqb c 125 (λ (q : c ≡ 125). omega arith))

pub decimal-word : (n : ℕ) → all in_word (decimal places n) ≡ true
decimal-word n = all_weaker is_digit in_word digit-word (decimal places n) (decimal-digits places n)

pub word-solid : (c : ℕ) → in_word c ≡ true → not (blank c) ≡ true
unfolding in_word
word-solid c e = go (blank c) e
  where
    go : (t : Bool) → not (t or eqb c 123 or eqb c 44 or eqb c 125) ≡ true → not t ≡ true
    go true f = f
    go false f = refl

-- no blank at the start of a word
pub stops-word : (w rest : List ℕ) → all in_word w ≡ true → 0 < length w → stops blank (w ++ rest) ≡ true
unfolding all stops
stops-word [] rest a h = absurd (omega arith)
stops-word (x ∷ w) rest a h = word-solid x (both (in_word x) (all in_word w) a).0

-- ---- the takes below t

-- of the volume g
abbrev pub below : ℕ → ℕ → ℕ
below g t = g % 2 ^ t

module _ (g t : ℕ) where
  below_step : below g (suc t) ≡ g / 2 ^ t % 2 * 2 ^ t + below g t
  below_step = rw (pow-succ' 2 t) (mod-mul g {m = 2} {c = 2 ^ t} (omega arith) (pow_pos t))

  below_on : named g t ≡ true → with_member (below g t) t ≡ below g (suc t)
  unfolding with_member named
  below_on e =
      let f : g / 2 ^ t % 2 ≡ 1 = eqb-true (g / 2 ^ t % 2) 1 e in
      let o : named (below g t) t ≡ false = named_past (below g t) t t (mod-lt g (pow_pos t)) (omega arith) in
      rw (o, below_step, f) (omega arith)

  below-off : named g t ≡ false → below g t ≡ below g (suc t)
  unfolding named
  below-off e =
      let f : g / 2 ^ t % 2 ≡ 0 = let n = eqb-false (g / 2 ^ t % 2) 1 e in omega arith in
      rw (below_step, f) (omega arith)

-- ---- one take

module _ (s rest : List ℕ) (p : Step) (g : ℕ) where
  -- the step with the takes below t
  abbrev up_to : ℕ → Step
  up_to t = with_field message_field (below g t) p

  member-here : (t at : ℕ) → t ≤ 15 → named g t ≡ true → drop at s ≡ decimal places t ++ rest → stops in_word rest ≡ true
      → member_at s at (up_to t) ≡ reached (at + length (decimal places t)) (up_to (suc t))
  unfolding member_at most_of with_field
  member-here t at b n e h =
      rw (word-here s at (decimal places t) rest e (decimal-word t) h, decimal-number 15 t b (omega arith), decimal-back 15 t b (omega arith), below_on g t n)

-- ---- takes with a comma before each

members-on : (n t g : ℕ) → named g t ≡ true → members (suc n) t g ≡ (44 ∷ decimal places t) ++ members n (suc t) g
unfolding members
members-on n t g e = rw e

members-off : (n t g : ℕ) → named g t ≡ false → members (suc n) t g ≡ members n (suc t) g
unfolding members
members-off n t g e = rw e

pub idle : (s : List ℕ) (r : Reader) → comma_next s r ≡ false → (n : ℕ) → more_members n s r ≡ r
unfolding more_members one_more
idle s r e zero = refl
idle s r e (suc n) = rw e (idle s r e n)

solid-comma : (l : List ℕ) → stops blank (44 ∷ l) ≡ true
unfolding stops blank
solid-comma l = refl

solid-brace : (l : List ℕ) → stops blank (125 ∷ l) ≡ true
unfolding stops blank
solid-brace l = refl

-- what follows a take in a volume is no byte of a word
members-stop : (n t g : ℕ) (rest : List ℕ) → stops in_word (members n t g ++ (125 ∷ rest)) ≡ true
unfolding members stops in_word blank
members-stop zero t g rest = refl
members-stop (suc n) t g rest = go (named g t) (members-stop n (suc t) g rest)
  where
    go : (b : Bool) → stops in_word (members n (suc t) g ++ (125 ∷ rest)) ≡ true → stops in_word (pick b (44 ∷ decimal places t) [] ++ members n (suc t) g ++ (125 ∷ rest)) ≡ true
    go true h = refl
    go false h = h

module _ (s rest : List ℕ) (p : Step) (g : ℕ) where
  no-comma : (at : ℕ) (q : Step) → drop at s ≡ 125 ∷ rest → comma_next s (reached at q) ≡ false
  unfolding comma_next
  no-comma at q e = rw (next_here s at (125 ∷ rest) e (solid-brace rest), byte-here s at 125 rest e)

  abbrev with : ℕ → Step
  with t = with_field message_field (below g t) p

  more-none : (t f at : ℕ) → drop at s ≡ members 0 t g ++ (125 ∷ rest) → more_members f s (reached at (with t)) ≡ reached (at + length (members 0 t g)) (with (t + 0))
  unfolding members
  more-none t f at e = idle s (reached at (with t)) (no-comma at (with t) e) f ∙ rw (add-zero at, add-zero t)

  one-more : (at : ℕ) (q : Step) (l : List ℕ) → drop at s ≡ 44 ∷ l → stops blank l ≡ true → (f : ℕ) → more_members (suc f) s (reached at q) ≡ more_members f s (member_at s (at + 1) q)
  unfolding more_members one_more comma_next
  one-more at q l e h f =
      rw (next_here s at (44 ∷ l) e (solid-comma l), byte-here s at 44 l e, next_here s (at + 1) l (past-byte s at 44 l e) h)

  abbrev More : ℕ → Type 0
  More n = (t f at : ℕ) → t + n ≤ 16 → length (members n t g) ≤ f → drop at s ≡ members n t g ++ (125 ∷ rest)
      → more_members f s (reached at (with t)) ≡ reached (at + length (members n t g)) (with (t + n))

  more-off : (n : ℕ) → More n → (t : ℕ) → named g t ≡ false → (f at : ℕ) → t + suc n ≤ 16 → length (members (suc n) t g) ≤ f → drop at s ≡ members (suc n) t g ++ (125 ∷ rest)
      → more_members f s (reached at (with t)) ≡ reached (at + length (members (suc n) t g)) (with (t + suc n))
  more-off n ih t q f at b h e =
      let m = members-off n t g q in
      let z : t + suc n ≡ suc t + n = omega arith in
      rw (m, below-off g t q, z) (ih (suc t) f at (omega arith) (rw m at h) (rw m at e))

  more-on : (n : ℕ) → More n → (t : ℕ) → named g t ≡ true → (f at : ℕ) → t + suc n ≤ 16 → length (members (suc n) t g) ≤ f → drop at s ≡ members (suc n) t g ++ (125 ∷ rest)
      → more_members f s (reached at (with t)) ≡ reached (at + length (members (suc n) t g)) (with (t + suc n))
  more-on n ih t q zero at b h e =
      let k : length ((44 ∷ decimal places t) ++ members n (suc t) g) ≤ 0 = rw (members-on n t g q) at h in
      absurd (omega arith)
  more-on n ih t q (suc f) at b h e =
      let m = members-on n t g q in
      let d : List ℕ = decimal places t in
      let after : List ℕ = members n (suc t) g ++ (125 ∷ rest) in
      let z : t + suc n ≡ suc t + n = omega arith in
      let l : length (members (suc n) t g) ≡ 1 + length d + length (members n (suc t) g) = rw (m, length-append) (omega arith) in
      let e1 : drop at s ≡ 44 ∷ (d ++ after) = e ∙ ap (λ (x : List ℕ). x ++ (125 ∷ rest)) m ∙ ap (λ (x : List ℕ). 44 ∷ x) (append_assoc d (members n (suc t) g) (125 ∷ rest)) in
      let e2 : drop (at + 1) s ≡ d ++ after = past-byte s at 44 (d ++ after) e1 in
      let e3 : drop (at + 1 + length d) s ≡ after = past s (at + 1) d after e2 in
      let w : member_at s (at + 1) (with t) ≡ reached (at + 1 + length d) (with (suc t)) =
      member-here s after p g t (at + 1) (omega arith) q e2 (members-stop n (suc t) g rest) in
      let c : at + 1 + length d + length (members n (suc t) g) ≡ at + length (members (suc n) t g) = omega arith in
      one-more at (with t) (d ++ after) e1 (stops-word d after (decimal-word t) (decimal-some 9 t)) f
      ∙ ap (more_members f s) w
      ∙ ih (suc t) f (at + 1 + length d) (omega arith) (omega arith) e3
      ∙ (λ i. reached (c i) (with (sym z i)))

  more-back : (n : ℕ) → More n
  more-back zero t f at b h e = more-none t f at e
  more-back (suc n) t f at b h e = go (named g t) refl (more-back n)
    where
      go : (c : Bool) → named g t ≡ c → More n → more_members f s (reached at (with t)) ≡ reached (at + length (members (suc n) t g)) (with (t + suc n))
      go true q ih = more-on n ih t q f at b h e
      go false q ih = more-off n ih t q f at b h e

  -- ---- the first take has no comma

  pub not-brace : (w l : List ℕ) (at : ℕ) → all is_digit w ≡ true → 0 < length w → drop at s ≡ w ++ l → eqb (get_or s at 0) 125 ≡ false
  unfolding all is_digit
  not-brace [] l at a h e = absurd (omega arith)
  not-brace (x ∷ w) l at a h e =
      let d = (both (is_digit x) (all is_digit w) a).0 in
      let k : x ≤ 57 = leb-true x 57 (both (leb 48 x) (leb x 57) d).1 in
      rw (byte-here s at x (w ++ l) e) (ne_eqb x 125 (λ (q : x ≡ 125). omega arith))

  closed-here : (at : ℕ) (q : Step) → drop at s ≡ 125 ∷ rest → closed s (reached at q) ≡ reached (at + 1) q
  unfolding closed
  closed-here at q e = rw (next_here s at (125 ∷ rest) e (solid-brace rest), byte-here s at 125 rest e)

  abbrev First : ℕ → Type 0
  First n = (t at : ℕ) → t + n ≤ 16 → drop at s ≡ drop 1 (members n t g) ++ (125 ∷ rest)
      → members_at s at (with t) ≡ reached (at + length (drop 1 (members n t g)) + 1) (with (t + n))

  first-none : (t at : ℕ) → drop at s ≡ drop 1 (members 0 t g) ++ (125 ∷ rest) → members_at s at (with t) ≡ reached (at + length (drop 1 (members 0 t g)) + 1) (with (t + 0))
  unfolding members members_at
  first-none t at e = rw (byte-here s at 125 rest e, add-zero at, add-zero t)

  first_off : (n : ℕ) → First n → (t : ℕ) → named g t ≡ false → (at : ℕ) → t + suc n ≤ 16 → drop at s ≡ drop 1 (members (suc n) t g) ++ (125 ∷ rest)
      → members_at s at (with t) ≡ reached (at + length (drop 1 (members (suc n) t g)) + 1) (with (t + suc n))
  first_off n ih t q at b e =
      let m = members-off n t g q in
      let z : t + suc n ≡ suc t + n = omega arith in
      rw (m, below-off g t q, z) (ih (suc t) at (omega arith) (rw m at e))

  first_on : (n t : ℕ) → named g t ≡ true → (at : ℕ) → t + suc n ≤ 16 → drop at s ≡ drop 1 (members (suc n) t g) ++ (125 ∷ rest)
      → members_at s at (with t) ≡ reached (at + length (drop 1 (members (suc n) t g)) + 1) (with (t + suc n))
  unfolding members_at
  first_on n t q at b e =
      let m = ap (drop 1) (members-on n t g q) in
      let d : List ℕ = decimal places t in
      let more : List ℕ = members n (suc t) g in
      let after : List ℕ = more ++ (125 ∷ rest) in
      let z : t + suc n ≡ suc t + n = omega arith in
      let l : length (drop 1 (members (suc n) t g)) ≡ length d + length more = ap length m ∙ length-append d more in
      let e1 : drop at s ≡ d ++ after = e ∙ ap (λ (x : List ℕ). x ++ (125 ∷ rest)) m ∙ append_assoc d more (125 ∷ rest) in
      let e2 : drop (at + length d) s ≡ after = past s at d after e1 in
      let e3 : drop (at + length d + length more) s ≡ 125 ∷ rest = past s (at + length d) more (125 ∷ rest) e2 in
      let w : member_at s at (with t) ≡ reached (at + length d) (with (suc t)) = member-here s after p g t at (omega arith) q e1 (members-stop n (suc t) g rest) in
      let k : length s - (at + length d) ≡ length more + length (125 ∷ rest) = sym (length-drop (at + length d) s) ∙ ap length e2 ∙ length-append more (125 ∷ rest) in
      let c : at + length d + length more + 1 ≡ at + length (drop 1 (members (suc n) t g)) + 1 = omega arith in
      rw (not-brace d after at (decimal-digits places t) (decimal-some 9 t) e1, w, more-back n (suc t) (length s) (at + length d) (omega arith) (omega arith) e2)
      (closed-here (at + length d + length more) (with (suc t + n)) e3 ∙ (λ i. reached (c i) (with (sym z i))))

  first_back : (n : ℕ) → First n
  first_back zero t at b e = first-none t at e
  first_back (suc n) t at b e = go (named g t) refl (first_back n)
    where
      go : (c : Bool) → named g t ≡ c → First n → members_at s at (with t) ≡ reached (at + length (drop 1 (members (suc n) t g)) + 1) (with (t + suc n))
      go true q ih = first_on n t q at b e
      go false q ih = first_off n ih t q at b e

members-solid : (n t g : ℕ) (rest : List ℕ) → stops blank (drop 1 (members n t g) ++ (125 ∷ rest)) ≡ true
unfolding members
members-solid zero t g rest = solid-brace rest
members-solid (suc n) t g rest = go (named g t) (members-solid n (suc t) g rest)
  where
    go : (b : Bool) → stops blank (drop 1 (members n (suc t) g) ++ (125 ∷ rest)) ≡ true
        → stops blank (drop 1 (pick b (44 ∷ decimal places t) [] ++ members n (suc t) g) ++ (125 ∷ rest)) ≡ true
    go true h = subst (λ (l : List ℕ). stops blank l ≡ true) (sym (append_assoc (decimal places t) (members n (suc t) g) (125 ∷ rest))) (stops-word (decimal places t) (members n (suc t) g ++ (125 ∷ rest)) (decimal-word t) (decimal-some 9 t))
    go false h = h

-- ---- all of it

pub group-back : (s rest : List ℕ) (at g : ℕ) (p : Step) → g < 65536 → drop at s ≡ group_text g ++ rest → group_at s at p ≡ reached (at + length (group_text g)) (with_field message_field g p)
unfolding group_at group_text
group-back s rest at g p h e =
    let x : List ℕ = drop 1 (members group_bits 0 g) in
    let e1 : drop at s ≡ 123 ∷ (x ++ (125 ∷ rest)) = e ∙ ap (λ (l : List ℕ). 123 ∷ l) (append_assoc x (125 ∷ []) rest) in
    let e2 : drop (at + 1) s ≡ x ++ (125 ∷ rest) = past-byte s at 123 (x ++ (125 ∷ rest)) e1 in
    let z : below g 0 ≡ 0 = omega arith in
    let f : below g 16 ≡ g = mod-eq_of_lt h in
    let c : at + 1 + length x + 1 ≡ at + length (group_text g) = omega (arith, length-append x (125 ∷ [])) in
    rw (byte-here s at 123 (x ++ (125 ∷ rest)) e1, next_here s (at + 1) (x ++ (125 ∷ rest)) e2 (members-solid group_bits 0 g rest))
    (ap (λ (k : ℕ). members_at s (at + 1) (with_field message_field k p)) (sym z) ∙ first_back s rest p g group_bits 0 (at + 1) (omega arith) e2 ∙ (λ i. reached (c i) (with_field message_field (f i) p)))
