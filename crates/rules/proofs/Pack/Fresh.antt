-- What is packed as zeros: an unused take, all but the status of a vanished one, a fresh image.
use Prim.Native.Nat.{ℕ, ◌*◌}
use mathlib.Core.Bool.{Bool, true, false}
use mathlib.Core.Path.{◌≡◌, refl, sym, ap, ◌∙◌}
use mathlib.Core.List.{[], ◌++◌}
use native.Mathlib.Omega.{arith}
use lib.ListN.{get_or-replicate}
use Rattle.octets.specs.Bytes.{pick, put, chunks, zeros}
use Rattle.octets.specs.Numbers.{be}
use Rattle.octets.proofs.Numbers.{be-zero}
use Rattle.octets.proofs.Zero.{zeros-append, chunks-zeros}
use Rattle.octets.proofs.Chunks.{chunks-same}
use Rattle.marks.specs.Packed.{bit}
use Rattle.maps.proofs.Packed.{pack-empty_map}
use Rattle.rules.specs.Layout.{Layout, Limits, transactor_bytes, message_bytes, head_bytes, limits_bytes, image_bytes}
use Rattle.rules.specs.Status.{unused}
use Rattle.rules.specs.State.{State, bare, no_transactor, transactor_at, fresh}
use Rattle.rules.specs.Pack.{pack_transactor, pack_transactor_at, pack_message_at, pack_head, pack_limits, pack_front, pack}
use Rattle.rules.specs.Calls.{fresh_image}
use Rattle.rules.proofs.Pack.Stores.{at-free, put-status, pack-with_limits}

abbrev nothing : Limits
nothing = record { transactors = 0; messages = 0; checkpoints = 0 }

module _ (y : Layout) where
  pub pack-unused : pack_transactor y (bare y unused) ≡ zeros (transactor_bytes y)
  unfolding pack_transactor
  pack-unused = simp (be-zero, pack-empty_map, zeros-append)

  -- only a status
  pub pack-bare : (st : ℕ) → put 0 (be 1 (64 * st)) (zeros (transactor_bytes y)) ≡ pack_transactor y (bare y st)
  pack-bare st = rw (← pack-unused) (put-status y (bare y unused) st)

  -- limits of 0, which are not in range, are packed as zeros
  limits-none : pack_limits y nothing ≡ zeros (limits_bytes y)
  unfolding pack_limits zeros
  limits-none = go y.limited
    where
      go : (t : Bool) → pick t (be 1 0 ++ be 1 0 ++ be 1 0 ++ be 1 0) [] ≡ zeros (4 * bit t)
      go true = simp (be-zero, zeros-append)
      go false = refl

  pack-nothing : pack y (fresh y nothing) ≡ zeros (image_bytes y)
  unfolding pack pack_front pack_head pack_transactor_at fresh transactor_at
  pack-nothing =
      let s : State = fresh y nothing in
      let a : chunks y.transactors (pack_transactor_at y s) ≡ zeros (transactor_bytes y * y.transactors) =
      chunks-same y.transactors (pack_transactor_at y s) (λ t. zeros (transactor_bytes y))
      (λ t h. ap (pack_transactor y) (get_or-replicate y.transactors t (bare y unused) no_transactor h) ∙ pack-unused)
      ∙ chunks-zeros (transactor_bytes y) y.transactors in
      let b : chunks y.messages (pack_message_at y s) ≡ zeros (message_bytes y * y.messages) =
      chunks-same y.messages (pack_message_at y s) (λ k. zeros (message_bytes y)) (λ k h. at-free y s k (omega arith))
      ∙ chunks-zeros (message_bytes y) y.messages in
      rw (limits-none, a, b) (simp (be-zero, zeros-append))

  -- "a fresh image is zero but for them"
  pub pack-fresh : (m : Limits) → fresh_image y m ≡ pack y (fresh y m)
  unfolding fresh_image fresh
  pack-fresh m = ap (put head_bytes (pack_limits y m)) (sym pack-nothing) ∙ pack-with_limits y (fresh y nothing) m
