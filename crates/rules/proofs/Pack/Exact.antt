-- The maps of a take where they stand in an image that is the packing of what it says; what the take carries, from them.
use Prim.Native.Nat.{ℕ, ◌+◌, ◌*◌, ◌≤◌, ◌<◌}
use mathlib.Core.Path.{◌≡◌, sym, ap, ◌∙◌, subst}
use mathlib.Core.List.{List}
use native.Mathlib.Omega.{arith}
use Rattle.octets.specs.Bytes.{put, part}
use Rattle.marks.specs.declared.History.{History}
use Rattle.marks.specs.Packed.{unpack_history, history_in}
use Rattle.maps.specs.declared.DependenceMap.{DependenceMap}
use Rattle.maps.specs.Packed.{pack_map, unpack_map}
use Rattle.maps.specs.Internal.Fitting.{MapOk, Exact}
use Rattle.rules.specs.Layout.{Layout, history_bytes, map_bytes, state_at, creation_at, behaviour_at, transactor_bytes, transactor_address}
use Rattle.rules.specs.State.{Transactor, transactor_at, own_history}
use Rattle.rules.specs.Rules.{join, only, carried}
use Rattle.rules.specs.Pack.{pack_dependences, pack_transactor, pack_transactor_at, transactor_part, unpack_dependences, pack, unpack}
use Rattle.rules.specs.Internal.Well.{DependencesOk}
use Rattle.rules.proofs.Pack.Sizes.{length-pack_transactor}
use Rattle.rules.proofs.Pack.Stores.{put-state, put-creation, put-behaviour}
use Rattle.rules.proofs.Pack.Loads.{part-transactor, read-state, read-creation, read-behaviour, read_history}
use Rattle.rules.proofs.Pack.RoundTrip.{map-part, transactor_part-pack}

module _ (y : Layout) (img : List ℕ) (packed : pack y (unpack y img) ≡ img) (t : ℕ) (below : t < y.transactors) where
  abbrev x : Transactor
  x = transactor_at (unpack y img) t

  abbrev at : ℕ
  at = transactor_address y t

  map-there : (off : ℕ) (m : DependenceMap) → off + map_bytes y ≤ transactor_bytes y → put off (pack_dependences y m) (pack_transactor y x) ≡ pack_transactor y x
      → part (at + off) (map_bytes y) img ≡ pack_dependences y m
  unfolding pack_transactor_at
  map-there off m h same =
      let bytes : transactor_part y img t ≡ pack_transactor y x = ap (λ (l : List ℕ). transactor_part y l t) (sym packed) ∙ transactor_part-pack y (unpack y img) t below in
      sym (part-transactor y img t off (map_bytes y) h) ∙ ap (part off (map_bytes y)) bytes ∙ map-part y off m (pack_transactor y x) (omega (arith, length-pack_transactor y x)) same

  pub state-exact : Exact y.width y.places y.transactors img (at + state_at)
  unfolding Exact
  state-exact = ap (pack_dependences y) (sym (read-state y img t below)) ∙ sym (map-there state_at x.state (omega arith) (put-state y x x.state))

  pub creation-exact : Exact y.width y.places y.transactors img (at + creation_at y)
  unfolding Exact
  creation-exact = ap (pack_dependences y) (sym (read-creation y img t below)) ∙ sym (map-there (creation_at y) x.creation (omega arith) (put-creation y x x.creation))

  behaviour-exact : Exact y.width y.places y.transactors img (at + behaviour_at y)
  unfolding Exact
  behaviour-exact = ap (pack_dependences y) (sym (read-behaviour y img t below)) ∙ sym (map-there (behaviour_at y) x.behaviour (omega arith) (put-behaviour y x x.behaviour))

  -- in a buffer that has the same bytes up to some place behind the take
  module _ (l : List ℕ) (a : ℕ) (behind : at + transactor_bytes y ≤ a) (same : (i n : ℕ) → i + n ≤ a → part i n l ≡ part i n img) where
    map_same : (off : ℕ) → off + map_bytes y ≤ transactor_bytes y → unpack_dependences y (at + off) l ≡ unpack_dependences y (at + off) img
    map_same off h = ap (unpack_map y.width y.places y.transactors) (same (at + off) (map_bytes y) (omega arith))

    pub creation-ok : DependencesOk y x.creation → MapOk y.width y.places y.transactors (unpack_dependences y (at + creation_at y) l)
    creation-ok o = subst (MapOk y.width y.places y.transactors) (read-creation y img t below ∙ sym (map_same (creation_at y) (omega arith))) o

    pub behaviour-ok : DependencesOk y x.behaviour → MapOk y.width y.places y.transactors (unpack_dependences y (at + behaviour_at y) l)
    behaviour-ok o = subst (MapOk y.width y.places y.transactors) (read-behaviour y img t below ∙ sym (map_same (behaviour_at y) (omega arith))) o

    pub behaviour-exact-there : Exact y.width y.places y.transactors l (at + behaviour_at y)
    unfolding Exact
    behaviour-exact-there =
        ap (pack_map y.width y.places y.transactors) (map_same (behaviour_at y) (omega arith))
        ∙ behaviour-exact ∙ sym (same (at + behaviour_at y) (map_bytes y) (omega arith))

    pub carried-there : history_bytes y * t + history_bytes y ≤ map_bytes y
        → join y (join y (unpack_dependences y (at + creation_at y) l) (unpack_dependences y (at + behaviour_at y) l)) (only y t (history_in y.width y.places l (at + state_at + history_bytes y * t)))
        ≡ carried y t x
    unfolding carried
    carried-there room =
        let c : unpack_dependences y (at + creation_at y) l ≡ x.creation = map_same (creation_at y) (omega arith) ∙ sym (read-creation y img t below) in
        let b : unpack_dependences y (at + behaviour_at y) l ≡ x.behaviour = map_same (behaviour_at y) (omega arith) ∙ sym (read-behaviour y img t below) in
        let o : history_in y.width y.places l (at + state_at + history_bytes y * t) ≡ own_history t x =
        ap (unpack_history y.width y.places) (same (at + state_at + history_bytes y * t) (history_bytes y) (omega arith)) ∙ sym (read_history y img t below t below) in
        ap (λ (m : DependenceMap). join y (join y m (unpack_dependences y (at + behaviour_at y) l)) (only y t (history_in y.width y.places l (at + state_at + history_bytes y * t)))) c
        ∙ ap (λ (m : DependenceMap). join y (join y x.creation m) (only y t (history_in y.width y.places l (at + state_at + history_bytes y * t)))) b
        ∙ ap (λ (h : History). join y (join y x.creation x.behaviour) (only y t h)) o
