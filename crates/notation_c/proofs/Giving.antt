-- Lines for other languages.
use Prim.Native.Nat.{ℕ, ◌≤◌, ◌<◌}
use mathlib.Core.Bool.{true, false}
use mathlib.Core.Path.{◌≡◌, ◌∙◌, subst}
use mathlib.Core.List.{List}
use native.Mathlib.Omega.{arith}
use borrow.Author.Tests.{lt-ltb, le-ltb, ne_eqb}
use lib.Dec.{eqb, ltb}
use lib.ListN.{length}
use Rattle.octets.specs.Bytes.{put}
use Rattle.octets.proofs.Put.{put-nil}
use Rattle.lines.specs.declared.Line.{Line}
use Rattle.lines.specs.Lines.{written, Says}
use Rattle.std.proofs.Common.{Ok, Err, Some, None, refl, []}
use Rattle.rules.specs.declared.refusals.Refusal.{Refusal}
use Rattle.rules.specs.Numbers.{refusal_number}
use Rattle.rules.proofs.Refused.{refused}
use Rattle.inspection.specs.Inspection.{inspect_refusal, ended, inspected, Inspects}
use Rattle.notation_c.specs.declared.Given.{Given}
use Rattle.notation_c.specs.Interface.{none, given_for, given_out, image_given}

-- what a line's function answers, and leaves in out
abbrev pub Gives : List ℕ → List ℕ → List ℕ → Given → Type 0
Gives x out after r = (r ≡ given_for x out) × (after ≡ given_out x out)

module _ (x out : List ℕ) where
  pub give-none : length out < length x → Gives x out out (none 18)
  unfolding given_for given_out
  give-none h =
      let e : ltb (length out) (length x) ≡ true = lt-ltb (length out) (length x) h in
      (rw e, rw e)

  pub give_all : (after : List ℕ) → length x ≤ length out → after ≡ put 0 x out → Gives x out after (record { length = length x; refusal = 0 })
  unfolding given_for given_out
  give_all after h p =
      let e : ltb (length out) (length x) ≡ false = le-ltb (length out) (length x) h in
      (rw e, rw e p)

pub gives : (l : Line) (x out after : List ℕ) (r : Given) → Says l x → Gives (written l) out after r → Gives x out after r
gives l x out after r s g = subst (λ (y : List ℕ). Gives y out after r) s.is g

-- a line of an image
module _ (img : List ℕ) (n : ℕ) (out : List ℕ) where
  abbrev pub Image : List ℕ → Given → Type 0
  Image after g = (g ≡ image_given img n out) × (after ≡ given_out (inspected img n) out)

  nothing-left : (after : List ℕ) → after ≡ out → inspected img n ≡ [] → after ≡ given_out (inspected img n) out
  unfolding given_out
  nothing-left after e z =
      let f : ltb (length out) 0 ≡ false = le-ltb (length out) 0 (omega arith) in
      rw (z, f) (e ∙ put-nil 0 out)

  ended-nothing : ended img n ≡ true → inspected img n ≡ []
  unfolding inspected
  ended-nothing e = rw e

  pub image-refused : (r : Refusal) → Inspects img n (Err r) → Image out (none (refusal_number r))
  unfolding image_given
  image-refused r h =
      let e : eqb (inspect_refusal img) 0 ≡ false = ne_eqb (inspect_refusal img) 0 (λ q. refused r (h.0 ∙ q)) in
      (rw (e, h.0), nothing-left out refl (ended-nothing h.1))

  pub image-ended : Inspects img n (Ok None) → Image out (none 0)
  unfolding image_given given_for
  image-ended h =
      let f : ltb (length out) 0 ≡ false = le-ltb (length out) 0 (omega arith) in
      (rw (h.0, ended-nothing h.1, f), nothing-left out refl (ended-nothing h.1))

  pub image-given : (l : Line) (after : List ℕ) (g : Given) → Inspects img n (Ok (Some l)) → g ≡ given_for (written l) out → after ≡ given_out (written l) out → Image after g
  unfolding image_given
  image-given l after g h p q =
      let s = gives l (inspected img n) out after g h.2 (p, q) in
      (rw h.0 s.0, s.1)
