-- No word runs over a place that the reader reaches, so none runs over a fault's.
use Prim.Native.Nat.{ℕ, zero, suc, ◌+◌, ◌≤◌, ◌<◌}
use mathlib.Core.Bool.{true, false}
use mathlib.Core.Path.{◌≡◌, refl, sym, ap, ◌∙◌, subst}
use mathlib.Core.List.{List, [], ◌∷◌, ◌++◌, append-nil}
use native.Mathlib.Omega.{arith}
use lib.Dec.{eqb, ltb}
use lib.ListN.{length, take, drop, get_or}
use Rattle.octets.specs.Bytes.{◌and◌}
use Rattle.octets.proofs.Tests.{pick-view}
use Rattle.octets.proofs.Zero.{both}
use Rattle.rules.specs.declared.Step.{Step}
use Rattle.notation.specs.Notation.{transactor_field, message_field, group_field, template_of}
use Rattle.notation.specs.Reading.{Reader, blank, in_word, all, next, word_at, is_number, most_of, fits, with_field, good, reached, word_item, member_at, comma_next, one_more, more_members, closed, members_at, group_at, item as item_of, items, ended, row_named, empty_step, line_at}
use Rattle.notation.specs.Grammar.{Blanks}
use Rattle.notation.specs.Faults.{last_or, parted}
use Rattle.notation.proofs.Words.{all_nil}
use Rattle.notation.proofs.Within.{next-within, word-within, byte-within, member-within, more_within, members-within, item-within, items-within}
use Rattle.notation.proofs.Accepted.{blank-outside}
use Rattle.notation.proofs.Sound.{gap, gap-blank, gap-cut, word-stops, byte_cut}
use Rattle.notation.proofs.Parting.{space-out, comma-out, open-out, close-out, last_out, parted-last, parted-stops}
use Rattle.notation.proofs.Columns.{front, gap-front}

cons-blanks : (c : ℕ) (b : List ℕ) → Blanks (c ∷ b) → (blank c ≡ true) × Blanks b
unfolding all
cons-blanks c b a = both (blank c) (all blank b) a

module _ (s : List ℕ) where
  abbrev pub Split : ℕ → Type 0
  Split i = parted (take i s) (drop i s) ≡ true

  split-start : Split 0
  unfolding last_or
  split-start = parted-last [] s space-out

  split-next : (i : ℕ) → i ≤ length s → Split i → Split (next s i)
  split-next i h p = go (gap s i) refl
    where
      go : (g : List ℕ) → gap s i ≡ g → Split (next s i)
      go [] e =
          let a : take (next s i) s ≡ take i s = gap-front s i h ∙ ap (λ (g : List ℕ). take i s ++ g) e ∙ append-nil (take i s) in
          let d : drop i s ≡ drop (next s i) s = gap-cut s i ∙ ap (λ (g : List ℕ). g ++ drop (next s i) s) e in
          subst (λ (u : List ℕ). parted u (drop (next s i) s) ≡ true) (sym a) (subst (λ (v : List ℕ). parted (take i s) v ≡ true) d p)
      go (c ∷ b) e =
          let k = cons-blanks c b (subst Blanks e (gap-blank s i)) in
          parted-last (take (next s i) s) (drop (next s i) s)
          (subst (λ (u : List ℕ). in_word (last_or 32 u) ≡ false) (sym (gap-front s i h ∙ ap (λ (g : List ℕ). take i s ++ g) e)) (last_out (take i s) c b (blank-outside c k.0) k.1))

  split-word : (i : ℕ) → Split (i + length (word_at s i))
  split-word i = parted-stops (take (i + length (word_at s i)) s) (drop (i + length (word_at s i)) s) (word-stops s i)

  -- behind a brace or a comma
  split-mark : (i c : ℕ) → 0 < c → in_word c ≡ false → eqb (get_or s i 0) c ≡ true → Split (i + 1)
  split-mark i c z o e =
      let h = byte-within s i c z e in
      let f : take (i + 1) s ≡ take i s ++ (c ∷ []) = front s i (i + 1) (c ∷ []) (byte_cut s i c z e) (omega arith) (omega arith) in
      parted-last (take (i + 1) s) (drop (i + 1) s) (subst (λ (u : List ℕ). in_word (last_or 32 u) ≡ false) (sym f) (last_out (take i s) c [] o (all_nil blank)))

  -- ---- the reader's places

  member-split : (at : ℕ) (p : Step) → Split at → Split (member_at s at p).at
  unfolding member_at
  member-split at p k = pick-view (λ (y : Reader). Split y.at) (is_number (most_of transactor_field) (word_at s at)) _ _ (λ e. split-word at) (λ e. k)

  one_split : (r : Reader) → r.at ≤ length s → Split r.at → Split (one_more s r).at
  unfolding one_more comma_next
  one_split r h k =
      pick-view (λ (y : Reader). Split y.at) (good r and eqb (get_or s (next s r.at) 0) 44) _ _
      (λ e.
      let c = (both (good r) (eqb (get_or s (next s r.at) 0) 44) e).1 in
      let i = byte-within s (next s r.at) 44 (omega arith) c in
      member-split (next s (next s r.at + 1)) r.step (split-next (next s r.at + 1) (omega arith) (split-mark (next s r.at) 44 (omega arith) comma-out c)))
      (λ e. k)

  more-split : (n : ℕ) (r : Reader) → r.at ≤ length s → Split r.at → Split (more_members n s r).at
  unfolding more_members
  more-split zero r h k = k
  more-split (suc n) r h k = more-split n (one_more s r) (more_within s r h) (one_split r h k)

  closed-split : (r : Reader) → r.at ≤ length s → Split r.at → Split (closed s r).at
  unfolding closed
  closed-split r h k =
      pick-view (λ (y : Reader). Split y.at) (good r) _ _
      (λ g. pick-view (λ (y : Reader). Split y.at) (eqb (get_or s (next s r.at) 0) 125) _ _
      (λ e. split-mark (next s r.at) 125 (omega arith) close-out e) (λ e. split-next r.at h k))
      (λ g. k)

  members-split : (at : ℕ) (p : Step) → at ≤ length s → Split at → Split (members_at s at p).at
  unfolding members_at
  members-split at p h k =
      pick-view (λ (y : Reader). Split y.at) (eqb (get_or s at 0) 125) _ _
      (λ e. split-mark at 125 (omega arith) close-out e)
      (λ e. closed-split (more_members (length s) s (member_at s at p)) (members-within s (length s) (member_at s at p) (member-within s at p h))
      (more-split (length s) (member_at s at p) (member-within s at p h) (member-split at p k)))

  group-split : (at : ℕ) (p : Step) → at ≤ length s → Split at → Split (group_at s at p).at
  unfolding group_at
  group-split at p h k =
      pick-view (λ (y : Reader). Split y.at) (eqb (get_or s at 0) 123) _ _
      (λ e.
      let i = byte-within s at 123 (omega arith) e in
      members-split (next s (at + 1)) (with_field message_field 0 p) (next-within s (at + 1) (omega arith)) (split-next (at + 1) (omega arith) (split-mark at 123 (omega arith) open-out e)))
      (λ e. k)

  word_split : (c at : ℕ) (p : Step) → Split at → Split (word_item c s at p).at
  unfolding word_item
  word_split c at p k = pick-view (λ (y : Reader). Split y.at) (fits c (word_at s at)) _ _ (λ e. split-word at) (λ e. k)

  item-split : (r : Reader) (c : ℕ) → r.at ≤ length s → Split r.at → Split (item_of s r c).at
  unfolding item_of
  item-split r c h k =
      pick-view (λ (y : Reader). Split y.at) (good r) _ _
      (λ g. pick-view (λ (y : Reader). Split y.at) (eqb c group_field) _ _
      (λ e. group-split (next s r.at) r.step (next-within s r.at h) (split-next r.at h k)) (λ e. word_split c (next s r.at) r.step (split-next r.at h k)))
      (λ g. k)

  items-split : (cs : List ℕ) (r : Reader) → r.at ≤ length s → Split r.at → Split (items s cs r).at
  unfolding items
  items-split [] r h k = k
  items-split (c ∷ cs) r h k = items-split cs (item_of s r c) (item-within s r c h) (item-split r c h k)

  ended-split : (r : Reader) → r.at ≤ length s → Split r.at → Split (ended s r).at
  unfolding ended
  ended-split r h k = pick-view (λ (y : Reader). Split y.at) (good r and ltb (next s r.at) (length s)) _ _ (λ e. split-next r.at h k) (λ e. k)

  line-parts : (at : ℕ) → at ≤ length s → Split at → Split (line_at s at).at
  unfolding line_at
  line-parts at h k =
      pick-view (λ (y : Reader). Split y.at) (ltb (row_named (word_at s at)) 14) _ _
      (λ e.
      let r : Reader = reached (at + length (word_at s at)) (empty_step (row_named (word_at s at))) in
      ended-split (items s (template_of (row_named (word_at s at))) r) (items-within s (template_of (row_named (word_at s at))) r (word-within s at h))
      (items-split (template_of (row_named (word_at s at))) r (word-within s at h) (split-word at)))
      (λ e. k)

  -- No word runs over the place that a line's reader reaches.
  pub line-split : Split (line_at s (next s 0)).at
  line-split = line-parts (next s 0) (next-within s 0 (omega arith)) (split-next 0 (omega arith) split-start)
