-- The signing of a group, take by take: the image before each turn.
use Prim.Native.Nat.{ℕ, ◌+◌, ◌-◌, ◌<◌}
use mathlib.Core.Bool.{Bool, true, false}
use mathlib.Core.Path.{◌≡◌, sym, ap, ◌∙◌}
use mathlib.Core.List.{List}
use native.Mathlib.Omega.{arith}
use borrow.Rule.Slice.PartMut.{mid_of, put_mid}
use lib.ListN.{length}
use Rattle.octets.specs.Bytes.{put}
use Rattle.rules.specs.Layout.{base, transactor_bytes, transactor_address}
use Rattle.rules.specs.State.{Transactor, State, transactor_at, own_history}
use Rattle.rules.specs.Refusals.{named}
use Rattle.rules.specs.Rules.{checkpoint_by, checkpoint_at, checkpoint_group}
use Rattle.rules.specs.Pack.{pack_transactor, pack_transactor_at, pack, unpack_transactor, transactor_part, unpack}
use Rattle.rules.specs.Internal.Well.{TransactorOk}
use Rattle.rules.specs.Internal.Good.{Good, GoodPart}
use Rattle.rules.specs.Internal.Guards.{Room}
use Rattle.rules.proofs.Pack.Sizes.{length-pack_transactor}
use Rattle.rules.proofs.Pack.Stores.{up_to, up_to-none, up_to-after, up_to-kept, up_to-all, pack-up_to}
use Rattle.rules.proofs.Pack.Loads.{unpack-many}
use Rattle.rules.proofs.Pack.RoundTrip.{unpack-pack_transactor, transactor_part-pack}
use Rattle.transactor.proofs.Lent.{part-lent, part-back}

-- the image before the turn of take t
unfoldable pub checkpointed_to : List ℕ → ℕ → ℕ → List ℕ
checkpointed_to img g t = pack base (up_to (unpack base img) (checkpoint_at base (unpack base img) g) t)

module _ (img : List ℕ) (good : Good img) (g : ℕ) where
  abbrev s : State
  s = unpack base img

  pub checkpointed-none : img ≡ checkpointed_to img g 0
  unfolding checkpointed_to
  checkpointed-none = rw up_to-none (sym good.back)

  module _ (t : ℕ) (l : List ℕ) (is : l ≡ checkpointed_to img g t) where
    pub checkpointed-all : t ≡ base.transactors → l ≡ pack base (checkpoint_group base s g)
    unfolding checkpointed_to checkpoint_group
    checkpointed-all e = is ∙ ap (checkpointed_to img g) e ∙ ap (pack base) (up_to-all base s (checkpoint_at base s g) (unpack-many base img))

    pub checkpointed-unnamed : (n : Bool) → n ≡ named g t → n ≡ false → l ≡ checkpointed_to img g (t + 1)
    unfolding checkpointed_to checkpoint_at
    checkpointed-unnamed n e o = is ∙ ap (pack base) (sym (up_to-kept s (checkpoint_at base s g) t (rw (← e, o))))

    module _ (below : t < base.transactors) where
      abbrev at : ℕ
      at = transactor_address base t

      -- its bytes, which are as they were
      abbrev own : List ℕ
      own = mid_of at (at + transactor_bytes base - at) l

      own-packed : own ≡ pack_transactor base (transactor_at s t)
      unfolding checkpointed_to pack_transactor_at transactor_part
      own-packed =
          part-lent at (transactor_bytes base) l
          ∙ ap (λ (b : List ℕ). transactor_part base b t) is
          ∙ transactor_part-pack base (up_to s (checkpoint_at base s g) t) t below
          ∙ ap (pack_transactor base) (up_to-after s (checkpoint_at base s g) t t (omega arith))

      ok : TransactorOk base (transactor_at s t)
      ok = good.well.packable.transactors t below

      own-unpacked : unpack_transactor base own ≡ transactor_at s t
      own-unpacked = ap (unpack_transactor base) own-packed ∙ unpack-pack_transactor base (transactor_at s t) ok

      pub checkpointed-good : GoodPart own
      checkpointed-good = record {
        long = rw own-packed (length-pack_transactor base (transactor_at s t));
        back = ap (pack_transactor base) own-unpacked ∙ sym own-packed;
        ok = rw own-unpacked ok;
      }

      module _ (n : Bool) (name : n ≡ named g t) (on : n ≡ true) where
        pub checkpointed-room : Room s g → (own_history t (unpack_transactor base own)).count < base.places
        unfolding Room
        checkpointed-room r = rw own-unpacked (omega (arith, r t (sym name ∙ on), good.well.limits.checkpoints-high))

        pub checkpointed-named : (b : List ℕ) → b ≡ pack_transactor base (checkpoint_by base t (unpack_transactor base own)) → put_mid at (at + transactor_bytes base - at) l b ≡ checkpointed_to img g (t + 1)
        unfolding checkpointed_to checkpoint_at
        checkpointed-named b e =
            let f : checkpoint_at base s g t ≡ checkpoint_by base t (transactor_at s t) = rw (← name, on) in
            let h : b ≡ pack_transactor base (checkpoint_at base s g t) = e ∙ ap (λ (x : Transactor). pack_transactor base (checkpoint_by base t x)) own-unpacked ∙ ap (pack_transactor base) (sym f) in
            part-back at (transactor_bytes base) l b (ap length h ∙ length-pack_transactor base (checkpoint_at base s g t))
            ∙ ap (λ (c : List ℕ). put at c l) h
            ∙ ap (put at (pack_transactor base (checkpoint_at base s g t))) is
            ∙ pack-up_to base s (checkpoint_at base s g) (unpack-many base img) t below
