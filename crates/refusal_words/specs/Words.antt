-- The words of each refusal of a call or a step. They stand here once, for replies, other languages and people. They are documents 01 and 02's own
-- where these are true for every call that refuses so and for every session's limits.
use Rattle.std.specs.Prelude.{ℕ, ◌-◌, List, [], ◌∷◌, leb, get_or}
use Rattle.octets.specs.Bytes.{pick}
use Rattle.notation.specs.Notation.{bytes}

-- The words of 16, of 17, and so on up to 35.
abbrev pub refusals : List (List ℕ)
refusals =
    bytes "image not of the right length"
    ∷ bytes "part not inside the list, its length not a multiple of 8, or over 8,192 bytes"
    ∷ bytes "replies, or other room lent, not of the right length"
    ∷ bytes "image ill-formed"
    ∷ bytes "kind 13 to 15, or unused or zero bits not zero"
    ∷ bytes "acting take, addressee or named take not opened"
    ∷ bytes "acting, receiving or named take vanished"
    ∷ bytes "receive when not idle; kinds 3 to 9 when not at work"
    ∷ bytes "parcel not waiting"
    ∷ bytes "no room for a take"
    ∷ bytes "no room for a parcel"
    ∷ bytes "next parcel number is 65535"
    ∷ bytes "a signed take would fall from life 65535"
    ∷ bytes "volume empty"
    ∷ bytes "a named take has no room for a signing"
    ∷ bytes "unrelated marks in parcel and receiver"
    ∷ bytes "a life number or list entry over 255, or limits not 16, 32 and 15"
    ∷ bytes "limits out of range: takes 1 to 16, parcels waiting 1 to 32, signings 1 to 15"
    ∷ bytes "size outside 1 to 16"
    ∷ bytes "width outside 1 to 256"
    ∷ []

-- the words of refusal n; none for any number but 16 to 35
unfoldable pub refusal_words : ℕ → List ℕ
refusal_words n = pick (leb 16 n) (get_or refusals (n - 16) []) []
