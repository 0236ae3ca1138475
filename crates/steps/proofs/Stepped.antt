-- What a step on an image gives: refused, or applied.
use Prim.Native.Nat.{ℕ}
use mathlib.Core.Path.{◌≡◌, sym, ap, ◌∙◌}
use mathlib.Core.List.{List}
use Rattle.rules.specs.Layout.{base}
use Rattle.rules.specs.declared.Step.{Step}
use Rattle.rules.specs.declared.Reply.{Reply}
use Rattle.rules.specs.Rules.{Result, refusal, answer, apply, step_of}
use Rattle.rules.specs.Pack.{pack, unpack}
use Rattle.rules.specs.Internal.Good.{Good}
use Rattle.steps.specs.Internal.Stepped.{Stepped}
use Rattle.rules.proofs.Keep.Step.{refused-same, applied-same}

-- a refused step leaves the image as it was
module _ (img : List ℕ) (p : Step) (r : Reply) (good : Good img) where
  pub stepped-refused : (n : ℕ) → refusal base (unpack base img) p ≡ n → (n ≡ 0 → ⊥) → r ≡ answer n 0 0 0 → Stepped img p r img
  stepped-refused n e h q =
      let same = refused-same base (unpack base img) p (λ z. h (sym e ∙ z)) in
      record {
        reply = q ∙ ap (λ (n : ℕ). answer n 0 0 0) (sym e) ∙ ap (λ (w : Result). w.reply) (sym same);
        image = sym good.back ∙ ap (λ (w : Result). pack base w.state) (sym same);
      }

pub stepped-applied : (img : List ℕ) (p : Step) (r : Reply) (after : List ℕ) (w : Result)
    → refusal base (unpack base img) p ≡ 0 → apply base (unpack base img) p ≡ w → r ≡ w.reply → after ≡ pack base w.state → Stepped img p r after
stepped-applied img p r after w e f q i =
    let same : step_of base (unpack base img) p ≡ w = applied-same base (unpack base img) p e ∙ f in
    record {
      reply = q ∙ ap (λ (w : Result). w.reply) (sym same);
      image = i ∙ ap (λ (w : Result). pack base w.state) (sym same);
    }
