-- Document 01, "Packed forms": a mark as bytes, over the width w of a life number in bytes and the length l of the list.
use Rattle.std.specs.Prelude.{ℕ, ◌+◌, ◌*◌, ◌/◌, ◌%◌, ◌<◌, Bool, true, false, List, ◌++◌, get_or, drop, replicate, eqb, leb}
use Rattle.octets.specs.Bytes.{pick, ◌and◌, part, chunks, tabulate, zeros, all_zero}
use Rattle.octets.specs.Numbers.{be, of_be, bound}
use Rattle.marks.specs.declared.History.{History}

-- Document 02, W5: "Life numbers and list entries grow to 16 bits. A mark is then 33 bytes (present 1, frozen 1, zero 2, count 4, n 16,
-- list 15 times 16)". So a number has two bytes; the list has fifteen places, as in document 01.
abbrev pub width : ℕ
width = 2

abbrev pub places : ℕ
places = 15

-- the largest life number that these bytes hold: from it there is no fall (28)
abbrev pub largest : ℕ
largest = 65535

-- what the four bits of the count hold is below this
abbrev pub count_bound : ℕ
count_bound = 16

-- present 1, frozen 1, zero 2, count of L 4, n, L
abbrev pub history_size : ℕ → ℕ → ℕ
history_size w l = 1 + w + w * l

-- all but the first byte
abbrev pub rest_size : ℕ → ℕ → ℕ
rest_size w l = w + w * l

-- n zeros, then n bytes of ones: what masks the used bytes of a packed mark
unfoldable pub ramp_of : ℕ → List ℕ
ramp_of n = zeros n ++ replicate n 255

abbrev pub bit : Bool → ℕ
bit true = 1
bit false = 0

unfoldable pub pack_number_at : ℕ → List ℕ → ℕ → List ℕ
pack_number_at w ns i = be w (get_or ns i 0)

-- a mark that is present
unfoldable pub pack_history : ℕ → ℕ → History → List ℕ
pack_history w l h =
    be 1 (128 + 64 * bit h.stable + h.count) ++ be w h.incarnation ++ chunks l (pack_number_at w h.checkpoints)

-- number i of those that stand in b from place at on
unfoldable pub load_number_at : ℕ → List ℕ → ℕ → ℕ → ℕ
load_number_at w b at i = of_be w (part (at + w * i) w b)

unfoldable pub unpack_history : ℕ → ℕ → List ℕ → History
unpack_history w l b = record {
  stable = leb 64 (get_or b 0 0 % 128);
  incarnation = of_be w (part 1 w b);
  count = get_or b 0 0 % 16;
  checkpoints = tabulate l (load_number_at w b (1 + w));
}

-- the mark packed in s from at on
abbrev pub history_in : ℕ → ℕ → List ℕ → ℕ → History
history_in w l s at = unpack_history w l (part at (history_size w l) s)

-- the present bit
unfoldable pub present_in : List ℕ → Bool
present_in b = leb 128 (get_or b 0 0)

-- Well-formed, where a list may have c entries: absent and all zero; or present, the zero bits zero, the count at most c, every place
-- past the count zero.
unfoldable pub formed_history : ℕ → ℕ → List ℕ → Bool
formed_history w c b =
    pick (present_in b)
    (eqb (get_or b 0 0 / 16 % 4) 0
    and leb (get_or b 0 0 % 16) c
    and all_zero (drop (1 + w + w * (get_or b 0 0 % 16)) b))
    (all_zero b)

-- every number of the mark fits w bytes, and the count its four bits
pub record Packable (w l : ℕ) (h : History) : Type 0 where
  pub incarnation : h.incarnation < bound w
  pub checkpoints : (i : ℕ) → get_or h.checkpoints i 0 < bound w
  pub count : h.count < count_bound
