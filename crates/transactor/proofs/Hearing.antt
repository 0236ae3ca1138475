-- A receipt's news in the image: state and creation maps of take t after the parcel in place k.
use Prim.Native.Nat.{ℕ, ◌+◌, ◌≤◌, ◌<◌}
use mathlib.Core.Bool.{Bool, true, false}
use mathlib.Core.Path.{◌≡◌, sym, ap, ◌∙◌, subst}
use mathlib.Core.List.{List}
use native.Mathlib.Omega.{arith}
use lib.ListN.{length}
use Rattle.octets.specs.Bytes.{◌and◌, put, part, all_zero}
use Rattle.octets.proofs.Tests.{and-false}
use Rattle.octets.proofs.Put.{length-put, part-put-after}
use Rattle.octets.proofs.Chunks.{step}
use Rattle.maps.specs.declared.DependenceMap.{DependenceMap}
use Rattle.maps.specs.Map.{held_at, Sized}
use Rattle.maps.specs.News.{informed_of}
use Rattle.maps.specs.Packed.{unpack_map}
use Rattle.maps.specs.Internal.Fitting.{Exact}
use Rattle.maps.specs.Internal.Informing.{Apart, behind}
use Rattle.maps.proofs.News.{informed-apart}
use Rattle.maps.proofs.Packed.{sized-unpack, length-pack_map}
use Rattle.rules.specs.Layout.{Layout, base, map_bytes, state_at, creation_at, transactor_bytes, dependences_at, message_bytes, transactor_address, message_address, image_bytes}
use Rattle.rules.specs.State.{Transactor, State, transactor_at, message_at, with_state, with_transactor}
use Rattle.rules.specs.Rules.{informed_by}
use Rattle.rules.specs.Pack.{pack_dependences, pack_transactor, unpack_dependences, waiting_in, pack, unpack}
use Rattle.rules.specs.Internal.Good.{Good}
use Rattle.rules.specs.Internal.Well.{WellFormed}
use Rattle.rules.proofs.Good.{good-pack}
use Rattle.rules.proofs.Pack.Exact.{state-exact, creation-exact}
use Rattle.rules.proofs.Pack.Sizes.{length-pack}
use Rattle.rules.proofs.Pack.Stores.{put-state, put-creation, with_transactor-many, with_transactor-here, with_transactor-same, with_transactor-again, pack-in_transactor}
use Rattle.rules.proofs.Pack.Loads.{unpack-many, unpack-waiting, waiting_few, read-state, read-creation, read-dependences}
use Rattle.rules.proofs.Pack.RoundTrip.{unpack-pack}
use Rattle.rules.proofs.Keep.Kinds.{well-informed}
use Rattle.transactor.specs.Internal.Effects.{taken_in}
use Rattle.transactor.proofs.Comparing.{absent}

module _ (y : Layout) (img : List ℕ) (t : ℕ) (below : t < y.transactors) (k : ℕ) (waits : k < waiting_in y img) (packed : pack y (unpack y img) ≡ img) where
  abbrev s : State
  s = unpack y img

  abbrev x : Transactor
  x = transactor_at s t

  abbrev deps : DependenceMap
  deps = (message_at s k).dependences

  abbrev at : ℕ
  at = transactor_address y t

  abbrev from : ℕ
  from = message_address y k + dependences_at

  -- ---- where the three maps stand

  fits : at + transactor_bytes y ≤ message_address y k
  fits = omega (arith, step (transactor_bytes y) t y.transactors below)

  from-fits : from + map_bytes y ≤ length img
  from-fits =
      let n : length img ≡ image_bytes y = sym (ap length packed) ∙ length-pack y s in
      omega (arith, step (message_bytes y) k y.messages (omega (arith, waiting_few y img)))

  -- ---- the state map is told

  -- what is asked of the two maps
  abbrev pub Asked : List ℕ → ℕ → Type 0
  Asked l off = (from + map_bytes y ≤ length l) × (at + off + map_bytes y ≤ length l) × Apart (map_bytes y) from (at + off) × Exact y.width y.places y.transactors l (at + off)

  pub state-asked : Asked img state_at
  state-asked = (from-fits, omega (arith, fits, from-fits), behind (omega (arith, fits)), state-exact y img packed t below)

  abbrev heard_state : DependenceMap
  heard_state = informed_of y.transactors t x.state deps

  module _ (img' : List ℕ) (e : img' ≡ put (at + state_at) (pack_dependences y (informed_of y.transactors t (unpack_dependences y (at + state_at) img) (unpack_dependences y from img))) img) where
    state-told : img' ≡ put (at + state_at) (pack_dependences y heard_state) img
    state-told =
        let p : informed_of y.transactors t (unpack_dependences y (at + state_at) img) (unpack_dependences y from img) ≡ heard_state = rw (read-state y img t below, read-dependences y img k waits) in
        e ∙ ap (λ (d : DependenceMap). put (at + state_at) (pack_dependences y d) img) p

    long-state : length (pack_dependences y heard_state) ≡ map_bytes y
    long-state = length-pack_map y.width y.places y.transactors heard_state

    state-packed : img' ≡ pack y (with_transactor s t (with_state x heard_state))
    state-packed =
        state-told
        ∙ ap (put (at + state_at) (pack_dependences y heard_state)) (sym packed)
        ∙ pack-in_transactor y s t below (unpack-many y img) (with_state x heard_state) state_at (pack_dependences y heard_state) (omega (arith, long-state)) (put-state y x heard_state)

    -- the other two stand behind
    kept-part : (p : ℕ) → at + creation_at y ≤ p → part p (map_bytes y) img' ≡ part p (map_bytes y) img
    kept-part p h =
        ap (part p (map_bytes y)) state-told
        ∙ part-put-after (at + state_at) (pack_dependences y heard_state) img (omega (arith, long-state, fits, from-fits)) p (map_bytes y) (omega (arith, long-state))

    long-then : length img' ≡ length img
    long-then = ap length state-told ∙ length-put (at + state_at) (pack_dependences y heard_state) img (omega (arith, long-state, fits, from-fits))

    creation-exact-then : Exact y.width y.places y.transactors img' (at + creation_at y)
    unfolding Exact
    creation-exact-then =
        subst (λ (b : List ℕ). pack_dependences y (unpack_map y.width y.places y.transactors b) ≡ b) (sym (kept-part (at + creation_at y) (omega arith))) (creation-exact y img packed t below)

    -- ---- and then the creation map

    pub creation-asked : Asked img' (creation_at y)
    creation-asked = (omega (arith, long-then, from-fits), omega (arith, long-then, fits, from-fits), behind (omega (arith, fits)), creation-exact-then)

    abbrev heard_creation : DependenceMap
    heard_creation = informed_of y.transactors t x.creation deps

    pub heard : (img'' : List ℕ)
        → img'' ≡ put (at + creation_at y) (pack_dependences y (informed_of y.transactors t (unpack_dependences y (at + creation_at y) img') (unpack_dependences y from img'))) img'
        → img'' ≡ pack y (with_transactor s t (informed_by y t x deps))
    heard img'' f =
        let told : Transactor = with_state x heard_state in
        let z : Transactor = informed_by y t x deps in
        let unpacked : List ℕ → DependenceMap = unpack_map y.width y.places y.transactors in
        let p : unpack_dependences y (at + creation_at y) img' ≡ x.creation = ap unpacked (kept-part (at + creation_at y) (omega arith)) ∙ sym (read-creation y img t below) in
        let q : unpack_dependences y from img' ≡ deps = ap unpacked (kept-part from (omega (arith, fits))) ∙ sym (read-dependences y img k waits) in
        let many : length (with_transactor s t told).transactors ≡ y.transactors = with_transactor-many s t told ∙ unpack-many y img in
        let here : transactor_at (with_transactor s t told) t ≡ told = with_transactor-here s t told (omega (arith, unpack-many y img)) in
        let n : length (pack_dependences y heard_creation) ≡ map_bytes y = length-pack_map y.width y.places y.transactors heard_creation in
        f
        ∙ ap (λ (d : DependenceMap). put (at + creation_at y) (pack_dependences y (informed_of y.transactors t d (unpack_dependences y from img'))) img') p
        ∙ ap (λ (d : DependenceMap). put (at + creation_at y) (pack_dependences y (informed_of y.transactors t x.creation d)) img') q
        ∙ ap (put (at + creation_at y) (pack_dependences y heard_creation)) state-packed
        ∙ pack-in_transactor y (with_transactor s t told) t below many z (creation_at y) (pack_dependences y heard_creation) (omega arith)
        (ap (λ (w : Transactor). put (creation_at y) (pack_dependences y heard_creation) (pack_transactor y w)) here ∙ put-creation y told heard_creation)
        ∙ ap (pack y) (with_transactor-again s t told z)

  -- ---- a parcel whose map has no entry tells nothing

  module _ (z : all_zero (part from (map_bytes y) img) ≡ true) where
    untold : (a : DependenceMap) → Sized y.transactors a → informed_of y.transactors t a deps ≡ a
    untold a sized =
        informed-apart y.transactors t a deps sized
        (λ u h.
        let e : held_at deps u ≡ false = ap (λ (d : DependenceMap). held_at d u) (read-dependences y img k waits) ∙ absent y.width y.places y.transactors img from from-fits z deps u h in
        ap (λ (q : Bool). held_at a u and q) e ∙ and-false (held_at a u))

    pub unheard : img ≡ pack y (with_transactor s t (informed_by y t x deps))
    unheard =
        let p : informed_of y.transactors t x.state deps ≡ x.state = untold x.state (rw (read-state y img t below) (sized-unpack y.width y.places y.transactors (part (at + state_at) (map_bytes y) img))) in
        let q : informed_of y.transactors t x.creation deps ≡ x.creation = untold x.creation (rw (read-creation y img t below) (sized-unpack y.width y.places y.transactors (part (at + creation_at y) (map_bytes y) img))) in
        let same : informed_by y t x deps ≡ x = λ i. record { status = x.status; value = x.value; saved = x.saved; state = p i; creation = q i; behaviour = x.behaviour } in
        sym packed ∙ ap (pack y) (sym (with_transactor-same s t)) ∙ ap (λ (w : Transactor). pack y (with_transactor s t w)) (sym same)

-- ---- the image after the news

module _ (img : List ℕ) (good : Good img) (t : ℕ) (below : t < base.transactors) (k : ℕ) (waits : k < waiting_in base img) (img' : List ℕ)
    (e : img' ≡ pack base (with_transactor (unpack base img) t (informed_by base t (transactor_at (unpack base img) t) (message_at (unpack base img) k).dependences))) where
  abbrev before : State
  before = unpack base img

  abbrev told : Transactor
  told = informed_by base t (transactor_at before t) (message_at before k).dependences

  told-well : WellFormed base (with_transactor before t told)
  told-well = well-informed good.well t below (message_at before k).dependences

  pub heard-good : Good img'
  heard-good = rw e (good-pack (with_transactor before t told) told-well)

  then_is : unpack base img' ≡ with_transactor before t told
  then_is = ap (unpack base) e ∙ unpack-pack base (with_transactor before t told) told-well.packable

  -- the parcel waits still
  pub heard-waits : k < waiting_in base img'
  unfolding with_transactor
  heard-waits = omega (arith, waits, unpack-waiting base img, unpack-waiting base img', ap (λ (z : State). length z.messages) then_is)

  -- and taken in then
  pub heard-taken : (img'' : List ℕ) → img'' ≡ pack base (with_transactor (unpack base img') t (taken_in (transactor_at (unpack base img') t) (message_at (unpack base img') k).dependences))
      → img'' ≡ pack base (with_transactor before t (taken_in told (message_at before k).dependences))
  unfolding message_at with_transactor
  heard-taken img'' f =
      let here : transactor_at (with_transactor before t told) t ≡ told = with_transactor-here before t told (omega (arith, unpack-many base img)) in
      f
      ∙ ap (λ (z : State). pack base (with_transactor z t (taken_in (transactor_at z t) (message_at z k).dependences))) then_is
      ∙ ap (λ (w : Transactor). pack base (with_transactor (with_transactor before t told) t (taken_in w (message_at before k).dependences))) here
      ∙ ap (pack base) (with_transactor-again before t told (taken_in told (message_at before k).dependences))
