-- An image of zeros, written part by part.
use Prim.Native.Nat.{ℕ, ◌+◌, ◌*◌, ◌≤◌, ◌<◌}
use mathlib.Core.Path.{◌≡◌, refl, sym, ap, ◌∙◌}
use mathlib.Core.List.{List}
use native.Mathlib.Nat.{add_assoc, mul-suc}
use native.Mathlib.Numerals.{add-one}
use native.Mathlib.Omega.{arith}
use lib.ListN.{length}
use Rattle.octets.specs.Bytes.{put, zeros}
use Rattle.octets.proofs.Put.{put-put, put-behind, put_whole}
use Rattle.octets.proofs.Zero.{length-zeros, zeros-append}
use Rattle.octets.proofs.Chunks.{step}
use Rattle.rules.specs.Layout.{Layout, Limits, transactor_bytes, message_bytes, head_bytes, limits_bytes, transactor_address, image_bytes}
use Rattle.rules.specs.Status.{unused}
use Rattle.rules.specs.State.{bare}
use Rattle.rules.specs.Pack.{pack_transactor, pack_limits}
use Rattle.rules.specs.Calls.{fresh_image}
use Rattle.rules.proofs.Pack.Fresh.{pack-unused}
use Rattle.transactor.proofs.Lent.{back, transactor-back}

zeros-on : (a n : ℕ) (l l' : List ℕ) → a + n ≤ length l → l' ≡ put 0 (zeros a) l → put a (zeros n) l' ≡ put 0 (zeros (a + n)) l
zeros-on a n l l' h e =
    let p : a ≡ 0 + a = omega arith in
    ap (λ (k : ℕ). put k (zeros n) l') p
    ∙ put-behind 0 a (zeros a) (zeros n) l l' (length-zeros a) (omega (arith, length-zeros n)) e
    ∙ ap (λ (x : List ℕ). put 0 x l) (zeros-append a n)

-- the same part once more
pub put-again : (at : ℕ) (bs l l' : List ℕ) → at + length bs ≤ length l → l' ≡ put at bs l → l' ≡ put at bs l'
put-again at bs l l' h e = e ∙ sym (put-put at bs bs l h refl) ∙ ap (put at bs) (sym e)

module _ (y : Layout) (l : List ℕ) (long : length l ≡ image_bytes y) where
  -- zero up to take t, and now take t too
  pub fresh-transactor : (t : ℕ) (l' bs : List ℕ) → l' ≡ put 0 (zeros (transactor_address y t)) l → t < y.transactors → bs ≡ pack_transactor y (bare y unused)
      → back y l' t bs ≡ put 0 (zeros (transactor_address y (t + 1))) l
  fresh-transactor t l' bs e h b =
      let a : ℕ = transactor_address y t in
      let w : ℕ = transactor_bytes y in
      let q : a + w ≡ transactor_address y (t + 1) = rw (add-one, mul-suc) (add_assoc (head_bytes + limits_bytes y) (w * t) w) in
      transactor-back y l' t (bare y unused) bs b
      ∙ ap (λ (x : List ℕ). put a x l') (pack-unused y)
      ∙ zeros-on a w l l' (omega (arith, step w t y.transactors h)) e
      ∙ ap (λ (x : ℕ). put 0 (zeros x) l) q

  -- all takes, and the places of messages too
  pub fresh-all : (t : ℕ) (l' l'' : List ℕ) → l' ≡ put 0 (zeros (transactor_address y t)) l → t ≡ y.transactors
      → l'' ≡ put (transactor_address y y.transactors) (zeros (message_bytes y * y.messages)) l' → l'' ≡ zeros (image_bytes y)
  fresh-all t l' l'' e h e' =
      let a : ℕ = transactor_address y y.transactors in
      let n : length (zeros (image_bytes y)) ≡ image_bytes y = length-zeros (image_bytes y) in
      e'
      ∙ zeros-on a (message_bytes y * y.messages) l l' (omega arith) (e ∙ ap (λ (x : ℕ). put 0 (zeros (transactor_address y x)) l) h)
      ∙ put_whole (zeros (image_bytes y)) l (omega arith)

-- and the limits put into it
pub fresh-stored : (y : Layout) (m : Limits) (l l' : List ℕ) → l ≡ zeros (image_bytes y) → l' ≡ put head_bytes (pack_limits y m) l → l' ≡ fresh_image y m
unfolding fresh_image
fresh-stored y m l l' e f = f ∙ ap (put head_bytes (pack_limits y m)) e
