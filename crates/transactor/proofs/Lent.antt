-- A part of an image lent out and come back, the bytes of one take, and a take opened.
use Prim.Native.Nat.{ℕ, ◌+◌, ◌-◌, ◌<◌, ◌≤◌}
use mathlib.Core.Path.{◌≡◌, sym, ap, ◌∙◌}
use mathlib.Core.List.{List, ◌++◌, append_assoc}
use native.Mathlib.Omega.{arith}
use lib.ListN.{length, take, drop, set}
use lib.Seq.{drop-drop}
use Rattle.octets.specs.Bytes.{put, part}
use Rattle.octets.proofs.Put.{put-def, part-def, length-put}
use Rattle.octets.proofs.Numbers.{put-be-one}
use Rattle.octets.proofs.Chunks.{step}
use Rattle.maps.specs.declared.DependenceMap.{DependenceMap}
use Rattle.maps.specs.Internal.Fitting.{Bounded}
use Rattle.maps.proofs.Packed.{bounded_at, bounded-unpack, bounded-singleton, bounded-join}
use Rattle.rules.specs.Layout.{Layout, base, map_bytes, state_at, creation_at, behaviour_at, transactor_bytes, transactor_address, image_bytes}
use Rattle.rules.specs.State.{Transactor, State, own_history, transactor_at, with_transactor}
use Rattle.rules.specs.Rules.{Effect, join, only, carried, opening, opened}
use Rattle.rules.specs.Pack.{unpack_dependences, pack_transactor, pack_transactor_at, unpack_transactor, transactor_part, unpack_transactor_at, pack, unpack}
use Rattle.rules.specs.Internal.Good.{Good, GoodPart}
use Rattle.transactor.specs.Internal.Effects.{Acts, open_bytes}
use Rattle.rules.proofs.Pack.Sizes.{length-pack_transactor, length-pack}
use Rattle.rules.proofs.Pack.Stores.{pack-with_transactor, pack-with_opened, with_transactor-same}
use Rattle.rules.proofs.Pack.Loads.{unpack-many, read-transactor}
use Rattle.rules.proofs.Pack.RoundTrip.{transactor_part-pack}

-- ---- a part from at up to at + w

module _ (at w : ℕ) (l : List ℕ) where
  width : at + w - at ≡ w
  width = omega arith

  pub part-lent : take (at + w - at) (drop at l) ≡ part at w l
  part-lent = rw (width, part-def)

  pub part-back : (bs : List ℕ) → length bs ≡ w → take at l ++ (bs ++ drop (at + w - at) (drop at l)) ≡ put at bs l
  part-back bs e = rw (width, put-def, e, drop-drop) (sym (append_assoc (take at l) bs (drop (at + w) l)))

-- ---- the bytes of a take

module _ (y : Layout) (img : List ℕ) (t : ℕ) where
  abbrev pub lent : List ℕ
  lent = take (transactor_address y t + transactor_bytes y - transactor_address y t) (drop (transactor_address y t) img)

  abbrev pub back : List ℕ → List ℕ
  back bs = take (transactor_address y t) img ++ (bs ++ drop (transactor_address y t + transactor_bytes y - transactor_address y t) (drop (transactor_address y t) img))

  pub transactor-lent : lent ≡ transactor_part y img t
  unfolding transactor_part
  transactor-lent = part-lent (transactor_address y t) (transactor_bytes y) img

  pub unpack-lent : t < y.transactors → unpack_transactor y lent ≡ transactor_at (unpack y img) t
  unfolding unpack_transactor_at
  unpack-lent h = ap (unpack_transactor y) transactor-lent ∙ sym (read-transactor y img t h)

  pub transactor-back : (x : Transactor) (bs : List ℕ) → bs ≡ pack_transactor y x → back bs ≡ put (transactor_address y t) (pack_transactor y x) img
  transactor-back x bs e =
      ap back e ∙ part-back (transactor_address y t) (transactor_bytes y) img (pack_transactor y x) (length-pack_transactor y x)

-- of the image of a well-formed state
module _ (img : List ℕ) (good : Good img) (t : ℕ) (below : t < base.transactors) where
  part-packed : transactor_part base img t ≡ pack_transactor base (transactor_at (unpack base img) t)
  unfolding pack_transactor_at
  part-packed = ap (λ (l : List ℕ). transactor_part base l t) (sym good.back) ∙ transactor_part-pack base (unpack base img) t below

  pub good-lent : GoodPart (lent base img t)
  good-lent =
      let x : Transactor = transactor_at (unpack base img) t in
      let e : unpack_transactor base (lent base img t) ≡ x = unpack-lent base img t below in
      let f : lent base img t ≡ pack_transactor base x = transactor-lent base img t ∙ part-packed in
      record {
        long = rw f (length-pack_transactor base x);
        back = ap (pack_transactor base) e ∙ sym f;
        ok = rw e (good.well.packable.transactors t below);
      }

  pub good-back : (x : Transactor) (bs : List ℕ) → bs ≡ pack_transactor base x → back base img t bs ≡ pack base (with_transactor (unpack base img) t x)
  good-back x bs e =
      transactor-back base img t x bs e
      ∙ ap (put (transactor_address base t) (pack_transactor base x)) (sym good.back)
      ∙ pack-with_transactor base (unpack base img) t below (unpack-many base img) x

  pub length_back : (x : Transactor) (bs : List ℕ) → bs ≡ pack_transactor base x → length (back base img t bs) ≡ image_bytes base
  length_back x bs e = rw (good-back x bs e) (length-pack base (with_transactor (unpack base img) t x))

-- what a take's bytes carry is within bounds
pub bounded-carried : (b : List ℕ) (t : ℕ) → Bounded base.places (carried base t (unpack_transactor base b))
unfolding carried unpack_transactor
bounded-carried b t =
    let l : ℕ = base.places in
    let n : ℕ = base.transactors in
    let x : Transactor = unpack_transactor base b in
    let ok : (at : ℕ) → Bounded l (unpack_dependences base at b) = λ at. bounded-unpack base.width l n (part at (map_bytes base) b) (omega arith) in
    bounded-join l n (join base x.creation x.behaviour) (only base t (own_history t x))
    (bounded-join l n x.creation x.behaviour (ok (creation_at base)) (ok (behaviour_at base)))
    (bounded-singleton l l n t (own_history t x) (bounded_at l x.state (ok state_at) t))

-- after a function on it
module _ (img : List ℕ) (good : Good img) (t : ℕ) (below : t < base.transactors) (e : Effect) {o v : ℕ} {bs : List ℕ} (acts : Acts e o v bs) where
  pub lent-after : back base img t bs ≡ pack base (with_transactor (unpack base img) t e.transactor)
  lent-after = good-back img good t below e.transactor bs acts.bytes

  pub lent_same : e.transactor ≡ transactor_at (unpack base img) t → back base img t bs ≡ img
  lent_same q = lent-after ∙ rw (q, with_transactor-same (unpack base img) t) good.back

-- ---- a take opened

pub open-pack : (y : Layout) (s : State) (v : ℕ) (m : DependenceMap) → s.opened < y.transactors → length s.transactors ≡ y.transactors
    → open_bytes y (pack y s) s.opened v m ≡ pack y (opened s (opening y s.opened v m))
unfolding open_bytes opened
open-pack y s v m h many =
    rw (pack-with_transactor y s s.opened h many (opening y s.opened v m))
    (pack-with_opened y (with_transactor s s.opened (opening y s.opened v m)) (s.opened + 1))

-- as the code stores it
pub open-stored : (y : Layout) (img bs : List ℕ) (c v : ℕ) (m : DependenceMap) → length img ≡ image_bytes y → c < y.transactors → c + 1 < 256
    → bs ≡ pack_transactor y (opening y c v m) → set (back y img c bs) 0 (c + 1) ≡ open_bytes y img c v m
unfolding open_bytes
open-stored y img bs c v m long below small e =
    let x : Transactor = opening y c v m in
    let fits : transactor_address y c + length (pack_transactor y x) ≤ length img = rw (length-pack_transactor y x, long) (omega (arith, step (transactor_bytes y) c y.transactors below)) in
    rw (transactor-back y img c x bs e)
    (sym (put-be-one 0 (c + 1) (put (transactor_address y c) (pack_transactor y x) img) (rw (length-put (transactor_address y c) (pack_transactor y x) img fits) (omega arith)) small))
