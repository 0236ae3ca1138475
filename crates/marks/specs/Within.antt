-- Document 02, W6: "some life number or list entry is over 255", of one mark.
use Rattle.std.specs.Prelude.{ℕ, ◌<◌, Bool, get_or, leb}
use Rattle.octets.specs.Bytes.{◌and◌, every}
use Rattle.marks.specs.declared.History.{History}

-- the life number and each of the l list entries of a mark are at most n
unfoldable pub history_within : ℕ → ℕ → History → Bool
history_within n l h = leb h.incarnation n and every l (λ i. leb (get_or h.checkpoints i 0) n)

-- for theorems: they are below b
pub record Low (b : ℕ) (h : History) : Type 0 where
  pub incarnation : h.incarnation < b
  pub checkpoints : (i : ℕ) → get_or h.checkpoints i 0 < b
