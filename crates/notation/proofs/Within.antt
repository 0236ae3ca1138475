-- The reader stays within its line.
use Prim.Native.Nat.{ℕ, zero, suc, ◌+◌, ◌≤◌, ◌<◌}
use mathlib.Core.Bool.{Bool, true, false}
use mathlib.Core.Path.{◌≡◌}
use mathlib.Core.Logic.{⊎_elim}
use mathlib.Core.List.{List, [], ◌∷◌}
use native.Mathlib.Omega.{arith}
use borrow.Author.Tests.{eqb-true}
use lib.Dec.{eqb, ltb}
use lib.ListN.{length, drop, get_or, length-take, length-drop, get_or-eq_default}
use Rattle.octets.specs.Bytes.{pick, ◌and◌}
use Rattle.octets.proofs.Chunks.{sides}
use Rattle.octets.proofs.Tests.{pick-view}
use Rattle.octets.proofs.Zero.{both}
use Rattle.rules.specs.declared.Step.{Step}
use Rattle.notation.specs.Notation.{message_field, group_field, names, template_of, transactor_field}
use Rattle.notation.specs.Reading.{Reader, blank, in_word, run, next, word_at, is_number, most_of, fits, with_field, good, reached, word_item, member_at, comma_next, one_more, more_members, closed, members_at, group_at, item, items, ended, row_named, empty_step, line_at}

pub run-most : (f : ℕ → Bool) (l : List ℕ) → run f l ≤ length l
unfolding run
run-most f [] = omega arith
run-most f (c ∷ l) = go (f c) (run-most f l)
  where
    go : (t : Bool) → run f l ≤ length l → pick t (suc (run f l)) 0 ≤ suc (length l)
    go true h = omega arith
    go false h = omega arith

module _ (s : List ℕ) where
  pub next-within : (at : ℕ) → at ≤ length s → next s at ≤ length s
  unfolding next
  next-within at h = omega (arith, run-most blank (drop at s), length-drop at s)

  pub next-from : (at : ℕ) → at ≤ next s at
  unfolding next
  next-from at = omega arith

  pub word-within : (at : ℕ) → at ≤ length s → at + length (word_at s at) ≤ length s
  unfolding word_at
  word-within at h = omega (arith, length-take (run in_word (drop at s)) (drop at s), length-drop at s)

  -- a byte that is there
  pub byte-within : (at c : ℕ) → 0 < c → eqb (get_or s at 0) c ≡ true → at < length s
  byte-within at c h e = ⊎_elim (λ (l : at < length s). l)
      (λ (l : length s ≤ at). absurd (omega (arith, eqb-true (get_or s at 0) c e, get_or-eq_default s 0 {n = at} l))) (sides at (length s))

  abbrev pub Within : Reader → Type 0
  Within r = r.at ≤ length s

  pub item-word : (c at : ℕ) (p : Step) → at ≤ length s → Within (word_item c s at p)
  unfolding word_item
  item-word c at p h = pick-view Within (fits c (word_at s at)) _ _ (λ e. word-within at h) (λ e. h)

  pub member-within : (at : ℕ) (p : Step) → at ≤ length s → Within (member_at s at p)
  unfolding member_at
  member-within at p h = pick-view Within (is_number (most_of transactor_field) (word_at s at)) _ _ (λ e. word-within at h) (λ e. h)

  pub more_within : (r : Reader) → Within r → Within (one_more s r)
  unfolding one_more comma_next
  more_within r h = pick-view Within (good r and eqb (get_or s (next s r.at) 0) 44) _ _
      (λ e. member-within (next s (next s r.at + 1)) r.step
      (next-within (next s r.at + 1) (omega (arith, byte-within (next s r.at) 44 (omega arith) (both (good r) (eqb (get_or s (next s r.at) 0) 44) e).1))))
      (λ e. h)

  pub members-within : (n : ℕ) (r : Reader) → Within r → Within (more_members n s r)
  unfolding more_members
  members-within zero r h = h
  members-within (suc n) r h = members-within n (one_more s r) (more_within r h)

  pub closed-within : (r : Reader) → Within r → Within (closed s r)
  unfolding closed
  closed-within r h = pick-view Within (good r) _ _
      (λ g. pick-view Within (eqb (get_or s (next s r.at) 0) 125) _ _
      (λ e. omega (arith, byte-within (next s r.at) 125 (omega arith) e)) (λ e. next-within r.at h))
      (λ g. h)

  pub first-within : (at : ℕ) (p : Step) → at ≤ length s → Within (members_at s at p)
  unfolding members_at
  first-within at p h = pick-view Within (eqb (get_or s at 0) 125) _ _
      (λ e. omega (arith, byte-within at 125 (omega arith) e))
      (λ e. closed-within (more_members (length s) s (member_at s at p)) (members-within (length s) (member_at s at p) (member-within at p h)))

  pub group-within : (at : ℕ) (p : Step) → at ≤ length s → Within (group_at s at p)
  unfolding group_at
  group-within at p h = pick-view Within (eqb (get_or s at 0) 123) _ _
      (λ e. first-within (next s (at + 1)) (with_field message_field 0 p) (next-within (at + 1) (omega (arith, byte-within at 123 (omega arith) e))))
      (λ e. h)

  pub item-within : (r : Reader) (c : ℕ) → Within r → Within (item s r c)
  unfolding item
  item-within r c h = pick-view Within (good r) _ _
      (λ g. pick-view Within (eqb c group_field) _ _ (λ e. group-within (next s r.at) r.step (next-within r.at h)) (λ e. item-word c (next s r.at) r.step (next-within r.at h)))
      (λ g. h)

  pub items-within : (cs : List ℕ) (r : Reader) → Within r → Within (items s cs r)
  unfolding items
  items-within [] r h = h
  items-within (c ∷ cs) r h = items-within cs (item s r c) (item-within r c h)

  pub ended-within : (r : Reader) → Within r → Within (ended s r)
  unfolding ended
  ended-within r h = pick-view Within (good r and ltb (next s r.at) (length s)) _ _ (λ e. next-within r.at h) (λ e. h)

  pub line-within : (at : ℕ) → at ≤ length s → Within (line_at s at)
  unfolding line_at
  line-within at h = pick-view Within (ltb (row_named (word_at s at)) (length names)) _ _
      (λ e. ended-within (items s (template_of (row_named (word_at s at))) (reached (at + length (word_at s at)) (empty_step (row_named (word_at s at)))))
      (items-within (template_of (row_named (word_at s at))) (reached (at + length (word_at s at)) (empty_step (row_named (word_at s at)))) (word-within at h)))
      (λ e. h)
