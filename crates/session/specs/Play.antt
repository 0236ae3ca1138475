-- Lists of steps for the book alone, from a book begun with the widest limits, to try its definitions on (proofs/Tries).
use Rattle.std.specs.Prelude.{ℕ, List, [], ◌∷◌}
use Rattle.rules.specs.Layout.{base, widest}
use Rattle.rules.specs.declared.Step.{Step}
use Rattle.rules.specs.Step.{root, letter, receive, new, send, write, sign}
use Rattle.session.specs.Provenance.{Provenance, empty_provenance}
use Rattle.session.specs.Steps.{applied, ProvenanceStep}

-- ---- steps, with the fields that their kinds use

-- kind, take, other, parcel, text
abbrev pub step_with : ℕ → ℕ → ℕ → ℕ → ℕ → Step
step_with k t o n v = record { kind = k; transactor = t; other = o; zero = 0; message = n; value = v }

abbrev pub a_root : ℕ → Step
a_root v = step_with root 0 0 0 v

abbrev pub a_letter : ℕ → ℕ → Step
a_letter t v = step_with letter t 0 0 v

abbrev pub a_receive : ℕ → Step
a_receive n = step_with receive 0 0 n 0

abbrev pub a_new : ℕ → ℕ → Step
a_new t v = step_with new t 0 0 v

abbrev pub a_send : ℕ → ℕ → ℕ → Step
a_send t o v = step_with send t o 0 v

abbrev pub a_write : ℕ → ℕ → Step
a_write t v = step_with write t 0 0 v

-- kinds 5 and 7 to 10
abbrev pub a_step : ℕ → ℕ → Step
a_step k t = step_with k t 0 0 0

abbrev pub a_sign : ℕ → Step
a_sign g = step_with sign 0 0 g 0

-- ---- lists of steps

-- from the book b to the book d by these steps, the first one first
pub data Play : Provenance → List Step → Provenance → Type 1 where
  end : {b : Provenance} → Play b [] b
  then : {b c d : Provenance} {p : Step} {ps : List Step} → ProvenanceStep base b p c → Play c ps d → Play b (p ∷ ps) d

-- a book begun with the widest limits
abbrev pub wide_provenance : Provenance
wide_provenance = empty_provenance (widest base)

-- the book takes the steps ps, and what P says holds of it then
pub record After (ps : List Step) (P : Provenance → Type 0) : Type 1 where
  pub provenance : Provenance
  pub play : Play wide_provenance ps provenance
  pub holds : P provenance

-- the book b after these steps, if none of them is refused or a signing
unfoldable pub played : Provenance → List Step → Provenance
played b [] = b
played b (p ∷ ps) = played (applied b p) ps
