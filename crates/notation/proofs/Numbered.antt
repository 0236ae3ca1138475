-- Step i of a list is line i of its text; what a take does to a volume; and when there is always room.
use Prim.Native.Nat.{ℕ, zero, suc, ◌+◌, ◌-◌, ◌*◌, ◌^◌, ◌≤◌, ◌<◌}
use mathlib.Core.Bool.{Bool, true, false}
use mathlib.Core.Path.{◌≡◌, refl, sym, ap, ◌∙◌, subst}
use mathlib.Core.List.{List, [], ◌∷◌, ◌++◌, append_assoc, append-nil}
use native.Mathlib.Omega.{arith}
use borrow.Author.Tests.{eqb-true}
use lib.Dec.{eqb}
use lib.ListN.{length, take, get_or, length-append, length-take}
use Rattle.octets.specs.Bytes.{pick, ◌or◌, chunks, tabulate}
use Rattle.octets.proofs.Chunks.{length-tabulate, get_d_tabulate}
use Rattle.octets.proofs.Tests.{pick-view}
use Rattle.rules.specs.declared.Step.{Step}
use Rattle.rules.specs.Step.{step_at, pack_step}
use Rattle.rules.specs.Calls.{steps_in}
use Rattle.rules.specs.Refusals.{named}
use Rattle.rules.specs.Internal.Well.{StepOk}
use Rattle.rules.proofs.Bits.{named-add}
use Rattle.notation.specs.Notation.{line_text, step_text, text}
use Rattle.notation.specs.Reading.{Reader, not_lf, next, reached, with_member, line_at, start_line, lines_of, said, fault, read}
use Rattle.notation.specs.Grammar.{Says, Lines, none, skip, step}
use Rattle.notation.specs.Faults.{Stop, unsaid, filled}
use Rattle.rules.proofs.Pack.Steps.{length-pack_step}
use Rattle.notation.proofs.Rows.{line-back, line_first}
use Rattle.notation.proofs.Lines.{first-line}
use Rattle.notation.proofs.Accepted.{accepted}
use Rattle.notation.proofs.Sound.{sound}
use Rattle.notation.proofs.Texts.{fault-first}

-- ---- lines and steps

chunk-lines : (f : ℕ → Step) (n : ℕ) (rest : List ℕ) → lines_of (chunks n (λ i. step_text (f i)) ++ rest) ≡ tabulate n (λ i. line_text (f i)) ++ lines_of rest
unfolding chunks tabulate
chunk-lines f zero rest = refl
chunk-lines f (suc n) rest =
    ap lines_of (append_assoc (chunks n (λ i. step_text (f i))) (step_text (f n)) rest)
    ∙ chunk-lines f n (step_text (f n) ++ rest)
    ∙ ap (λ (ls : List (List ℕ)). tabulate n (λ i. line_text (f i)) ++ ls) (first-line (f n) rest)
    ∙ sym (append_assoc (tabulate n (λ i. line_text (f i))) (line_text (f n) ∷ []) (lines_of rest))

-- The lines of a list's text are those of its steps,
pub lines-of-text : (l : List ℕ) → lines_of (text l) ≡ tabulate (steps_in l) (λ i. line_text (step_at l i))
unfolding text lines_of
lines-of-text l =
    ap lines_of (sym (append-nil (chunks (steps_in l) (λ i. step_text (step_at l i)))))
    ∙ chunk-lines (step_at l) (steps_in l) []
    ∙ append-nil (tabulate (steps_in l) (λ i. line_text (step_at l i)))

-- as many as there are steps, and line i is step i.
pub line-count : (l : List ℕ) → length (lines_of (text l)) ≡ steps_in l
line-count l = ap length (lines-of-text l) ∙ length-tabulate (λ i. line_text (step_at l i)) (steps_in l)

pub line-is-step : (l : List ℕ) (i : ℕ) → i < steps_in l → get_or (lines_of (text l)) i [] ≡ line_text (step_at l i)
line-is-step l i h = ap (λ (ls : List (List ℕ)). get_or ls i []) (lines-of-text l) ∙ get_d_tabulate (λ j. line_text (step_at l j)) (steps_in l) i [] h

-- ---- volumes

-- A volume with one more take names that take and those it named: order and repeats do not count.
pub member-names : (g t u : ℕ) → named (with_member g t) u ≡ named g u or eqb t u
unfolding with_member
member-names g t u = go (named g t) refl
  where
    again : (a b : Bool) → (b ≡ true → a ≡ true) → a ≡ a or b
    again true b h = refl
    again false true h = h refl
    again false false h = refl

    go : (b : Bool) → named g t ≡ b → named (pick b g (g + 2 ^ t)) u ≡ named g u or eqb t u
    go true e = again (named g u) (eqb t u) (λ (q : eqb t u ≡ true). subst (λ (v : ℕ). named g v ≡ true) (eqb-true t u q) e)
    go false e = named-add g t u e

-- ---- how long a list can be

lines-short : (t : List ℕ) → length (lines_of t) ≤ length t
unfolding lines_of start_line
lines-short [] = omega arith
lines-short (c ∷ t) = pick-view (λ (ls : List (List ℕ)). length ls ≤ suc (length t)) (not_lf c) _ _ (λ e. go (lines_of t) (lines-short t)) (λ e. omega (arith, lines-short t))
  where
    go : (ls : List (List ℕ)) → length ls ≤ length t → length (start_line c ls) ≤ suc (length t)
    go [] h = omega arith
    go (l ∷ ls) h = omega arith

said-short : (ls : List (List ℕ)) (m : List ℕ) → Lines ls m → length m ≤ 8 * length ls
said-short ls m none = omega arith
said-short ls m (skip l ls' _ a d) = omega (arith, said-short ls' m d)
said-short ls m (step l ls' p n _ c d e) = omega (arith, ap length e, length-append (pack_step p) n, length-pack_step p, said-short ls' n d)

roomy : (most : ℕ) (l : List ℕ) (long at e : ℕ) → Stop most l long at e → long + 8 ≤ most → (p : Step) → Says (said l) p → ⊥
roomy most l long at e (unsaid a b r c) h p d = b p d
roomy most l long at e (filled q c k f g) h p d = omega arith

-- With eight bytes of room for each byte of the text, every fault is at a line that says no step: parse never answers for want of room.
pub roomy-fault : (most : ℕ) (t : List ℕ) (n c e : ℕ) → 8 * length t ≤ most → read most t ≡ fault n c e → (p : Step) → Says (said (get_or (lines_of t) (n - 1) [])) p → ⊥
roomy-fault most t n c e h f =
    let k = fault-first most t n c e f in
    let a = said-short (take (n - 1) (lines_of t)) k.list k.before in
    let b = length-take (n - 1) (lines_of t) in
    let d = lines-short t in
    roomy most (get_or (lines_of t) (n - 1) []) (length k.list) (c - 1) e k.here (omega (arith, k.from, k.up_to))

-- ---- a line and its step

-- A line says one step at most,
pub says-one : (s : List ℕ) (p q : Step) → Says s p → Says s q → p ≡ q
says-one s p q a b = sym (accepted s p a).is ∙ (accepted s q b).is

-- and the canonical text of a step says it.
pub canonical-says : (p : Step) → StepOk p → Says (line_text p) p
canonical-says p ok =
    let e : line_at (line_text p) (next (line_text p) 0) ≡ reached (length (line_text p)) p = ap (line_at (line_text p)) (line_first p ok) ∙ line-back p ok in
    subst (Says (line_text p)) (ap (λ (r : Reader). r.step) e) (sound (line_text p) (ap (λ (r : Reader). r.expected) e))
