-- What reading, writing and cutting have to do with each other.
use Rattle.std.specs.Prelude.{◌≡◌, ℕ, ◌+◌, ◌*◌, ◌^◌, ◌<◌, Bool, true, false, List, ◌++◌, length, Some, Ok, slice_index}
use Rattle.gateway.specs.declared.messages.Message.{Message}
use Rattle.gateway.specs.declared.messages.Uses.{Uses}
use Rattle.gateway.specs.Frames.{Fields, allowed_at, first_stray, meaning, encoded, decoded}
use Rattle.gateway.specs.Cuts.{whole_in, count_of, cut_at, pieces, piece_at}

abbrev pub Bytes : List ℕ → Type 0
Bytes b = (i : ℕ) → slice_index b i < 256

-- the numbers of a message fit their four bytes, and its reference has eight
pub record Fit (m : Fields) : Type 0 where
  pub number : m.number < 2 ^ 32
  pub price : m.price < 2 ^ 32
  pub quantity : m.quantity < 2 ^ 32
  pub minimum : m.minimum < 2 ^ 32
  pub time : m.time < 2 ^ 32
  pub reference : length m.reference ≡ 8

-- every message, written as a frame, reads back as itself, where a permission O is one to take orders
abbrev pub Rereads : (O : Type 0) → Bool → Type 0
Rereads O orders = (O → orders ≡ true) → (place : ℕ) (m : Message O) → Fit (meaning m) → decoded orders place (encoded (meaning m)) ≡ Ok (meaning m)

-- every frame that reads is the one that is written of its message
abbrev pub Rewrites : Type 0
Rewrites = (orders : Bool) (place : ℕ) (b : List ℕ) (m : Fields) → Bytes b → decoded orders place b ≡ Ok m → encoded m ≡ b

-- a stray byte that is named stands there, and none stands before it
pub record First (u : Uses) (b : List ℕ) (p : ℕ) : Type 0 where
  pub within : p < length b
  pub here : allowed_at u p (slice_index b p) ≡ false
  pub before : (i : ℕ) → i < p → allowed_at u i (slice_index b i) ≡ true

abbrev pub Firsts : Type 0
Firsts = (u : Uses) (b : List ℕ) (p : ℕ) → first_stray u b 0 ≡ Some p → First u b p

-- the pieces of a file, whole and in order, are the file; a frame has 32 bytes, and a short rest 1 to 31
pub record Cut (b : List ℕ) : Type 0 where
  pub joined : pieces (count_of b) b ≡ b
  pub frames : (i : ℕ) → i < whole_in b → length (cut_at b i) ≡ 32
  pub rest : whole_in b < count_of b → (0 < length (cut_at b (whole_in b))) × (length (cut_at b (whole_in b)) < 32)

abbrev pub Covers : Type 0
Covers = (b : List ℕ) → Cut b

-- after n whole frames, cutting goes on as if the file began there
abbrev pub Resumes : Type 0
Resumes = (a b : List ℕ) (n i place : ℕ) → length a ≡ 32 * n → piece_at (a ++ b) (n + i) place ≡ piece_at b i place
