-- What a move writes, entry by entry, and that its bytes are those of a number.
use Prim.Native.Nat.{ℕ, ◌+◌, ◌-◌, ◌*◌, ◌/◌, ◌%◌, ◌^◌, ◌≤◌, ◌<◌}
use native.Mathlib.Nat.{zero-add, div-one}
use native.Mathlib.Omega.{arith}
use mathlib.Core.Path.{◌≡◌, refl, sym, ap, ◌∙◌}
use mathlib.Core.Bool.{Bool, true, false, cond}
use mathlib.Core.List.{List, [], ◌∷◌, ◌++◌, append-nil}
use borrow.Author.Tests.{ltb-true, ltb-false}
use lib.Dec.{ltb, eqb}
use lib.ListN.{length, get_or, get_or-append, get_or-eq_default}
use lib.Seq.{get_or-append-add}
use Rattle.word.specs.Sum.{tabulate, digit}
use Rattle.word.specs.Word.{significance, value_of, bytes_of}
use Rattle.word.proofs.Sums.{tabulate_is, tabulate_at, tabulate_past, tabulate-length}
use Rattle.word.proofs.Laws.{significance_lt, significance_twice, part_length, part_bytes, bytes-length, bytes_at_lem, written_read}
use Rattle.word.proofs.Shifts.{bytes_mod, digit_past, digit-div, digit_joined}
use Rattle.integer.specs.Operations.{int_sext}
use Rattle.integer.proofs.Extension.{sext_digit}
use Rattle.operation.specs.declared.layout.Settings.{Settings}
use Rattle.operation.specs.declared.layout.Varnode.{Varnode}
use Rattle.machine.specs.Program.{big_endian}
use Rattle.machine.specs.Memory.{Memory, OfBytes, space_of, bytes_at, value_at, ordered, digits_at}
use Rattle.machine.specs.Effect.{Operation, Origin, dropped, moves, origin, entry_from, moved, sign_fill, digits_of, bytes_written}

-- ---- bytes by significance

pub length-ordered : (big : Bool) (bs : List ℕ) → length (ordered big bs) ≡ length bs
unfolding ordered
length-ordered big bs = tabulate-length (length bs) _

pub ordered_at : (big : Bool) (bs : List ℕ) (k : ℕ) → get_or (ordered big bs) k 0 ≡ cond (ltb k (length bs)) (get_or bs (significance big (length bs) k) 0) 0
unfolding ordered
ordered_at big bs k = by (ltb k (length bs)) refl
  where
    f : ℕ → ℕ
    f i = get_or bs (significance big (length bs) i) 0

    by : (t : Bool) → ltb k (length bs) ≡ t → get_or (tabulate (length bs) f) k 0 ≡ cond t (f k) 0
    by true e = tabulate_at (length bs) f k (ltb-true k (length bs) e)
    by false e = tabulate_past (length bs) f k (ltb-false k (length bs) e)

pub bytes_count : (m : Memory) (v : Varnode) → length (bytes_at m v) ≡ v.size
unfolding bytes_at
bytes_count m v = part_length (space_of m v.space) v.offset v.size

-- ordering the bytes of a number puts them in the other order
ordered_back : (big : Bool) (n x : ℕ) → ordered big (bytes_of big n x) ≡ bytes_of false n x
unfolding ordered significance
ordered_back big n x =
    rw (bytes-length big n x)
    (tabulate_is n (λ i. get_or (bytes_of big n x) (significance big n i) 0) (bytes_of false n x) (bytes-length false n x)
    (λ i h. bytes_at_lem big n x (significance big n i) (significance_lt big n i h) ∙ ap (digit 256 x) (significance_twice big n i h) ∙ sym (bytes_at_lem false n x i h)))

-- a varnode's bytes by significance are those of the number that they make
ordered_number : (big : Bool) (m : Memory) (v : Varnode) → OfBytes m → ordered big (bytes_at m v) ≡ bytes_of false v.size (value_of big (bytes_at m v))
unfolding bytes_at
ordered_number big m v h =
    ap (ordered big) (sym (written_read big (bytes_at m v) (part_bytes (space_of m v.space) v.offset v.size (h v.space))))
    ∙ ordered_back big (length (bytes_at m v)) (value_of big (bytes_at m v))
    ∙ ap (λ (n : ℕ). bytes_of false n (value_of big (bytes_at m v))) (bytes_count m v)

digits_of_lem : (settings : Settings) (m : Memory) (v : Varnode) → OfBytes m → digits_at settings m v ≡ bytes_of false v.size (value_at settings m v)
unfolding digits_at value_at
digits_of_lem settings m v h = by (eqb v.space 1)
  where
    by : (t : Bool) → cond t (bytes_of false v.size v.offset) (ordered (big_endian settings) (bytes_at m v))
        ≡ bytes_of false v.size (cond t v.offset (value_of (big_endian settings) (bytes_at m v)))
    by true = refl
    by false = ordered_number (big_endian settings) m v h

-- the bytes of a number that fits, and none above them
entry : (s x j : ℕ) → x < 256 ^ s → get_or (bytes_of false s x) j 0 ≡ digit 256 x j
unfolding significance bytes_of
entry s x j h = by (ltb j s) refl
  where
    by : (t : Bool) → ltb j s ≡ t → get_or (bytes_of false s x) j 0 ≡ digit 256 x j
    by true t = bytes_at_lem false s x j (ltb-true j s t)
    by false t = tabulate_past s (λ k. digit 256 x k) j (ltb-false j s t) ∙ sym (digit_past s x j h (ltb-false j s t))

-- one list of entries after another
pub joined_at : (low high : List ℕ) (k : ℕ) → get_or (low ++ high) k 0 ≡ cond (ltb k (length low)) (get_or low k 0) (get_or high (k - length low) 0)
joined_at low high k = by (ltb k (length low)) refl
  where
    by : (t : Bool) → ltb k (length low) ≡ t → get_or (low ++ high) k 0 ≡ cond t (get_or low k 0) (get_or high (k - length low) 0)
    by true e = get_or-append low high 0 k (ltb-true k (length low) e)
    by false e =
        let l : k ≡ length low + (k - length low) = omega (arith, ltb-false k (length low) e) in
        ap (λ (j : ℕ). get_or (low ++ high) j 0) l ∙ get_or-append-add low high (k - length low) 0

-- ---- what a move takes from some entries

module _ (op : Operation) (fill : ℕ → ℕ) (entries : List ℕ) (k : ℕ) where
  -- all but INT_SEXT: the entry, or 0 above them
  pub taken : eqb op.opcode 20 ≡ false → entry_from fill entries (origin op (length entries) k) ≡ get_or entries (dropped op + k) 0
  unfolding origin entry_from
  taken e = rw e (by (ltb (dropped op + k) (length entries)) refl)
    where
      by : (t : Bool) → ltb (dropped op + k) (length entries) ≡ t
          → entry_from fill entries (cond t (Origin.read (dropped op + k)) Origin.zeros) ≡ get_or entries (dropped op + k) 0
      by true q = refl
      by false q = sym (get_or-eq_default entries 0 (ltb-false (dropped op + k) (length entries) q))

  -- INT_SEXT: the entry, or what the last one fills with
  pub extended : op.opcode ≡ 20
      → entry_from fill entries (origin op (length entries) k) ≡ cond (ltb k (length entries)) (get_or entries k 0) (fill (get_or entries (length entries - 1) 0))
  unfolding origin entry_from dropped
  extended e = rw (e, zero-add k) (by (ltb k (length entries)))
    where
      by : (t : Bool) → entry_from fill entries (cond t (Origin.read k) (Origin.filled (length entries - 1)))
          ≡ cond t (get_or entries k 0) (fill (get_or entries (length entries - 1) 0))
      by true = refl
      by false = refl

pub moved_is : (big : Bool) (op : Operation) (n : ℕ) (fill : ℕ → ℕ) (entries : List ℕ) (f : ℕ → ℕ)
    → ((k : ℕ) → k < n → entry_from fill entries (origin op (length entries) k) ≡ f k) → moved big op n fill entries ≡ tabulate n (λ i. f (significance big n i))
unfolding moved
moved_is big op n fill entries f h =
    tabulate_is n _ (tabulate n (λ i. f (significance big n i))) (tabulate-length n _)
    (λ i l. h (significance big n i) (significance_lt big n i l) ∙ sym (tabulate_at n (λ j. f (significance big n j)) i l))

-- ---- the bytes written are those of a number

module _ (settings : Settings) (op : Operation) (m : Memory) (n x : ℕ) (vs : List Varnode) (e : moves op ≡ true) where
  -- byte by byte
  written_is : ((k : ℕ) → k < n → entry_from sign_fill (digits_of settings m vs) (origin op (length (digits_of settings m vs)) k) ≡ digit 256 x k)
      → bytes_written settings op n vs m ≡ bytes_of (big_endian settings) n x
  unfolding bytes_written bytes_of
  written_is h = rw e (moved_is (big_endian settings) op n sign_fill (digits_of settings m vs) (digit 256 x) h)

module _ (settings : Settings) (op : Operation) (m : Memory) (n : ℕ) (v : Varnode) (e : moves op ≡ true) (b : OfBytes m)
    (h : value_at settings m v < 256 ^ v.size) where
  one_source : digits_of settings m (v ∷ []) ≡ bytes_of false v.size (value_at settings m v)
  unfolding digits_of
  one_source = append-nil (digits_at settings m v) ∙ digits_of_lem settings m v b

  -- a move from one varnode, which leaves out its k least significant bytes
  moved_from : (k : ℕ) → eqb op.opcode 20 ≡ false → dropped op ≡ k
      → bytes_written settings op n (v ∷ []) m ≡ bytes_of (big_endian settings) n (value_at settings m v / 256 ^ k)
  moved_from k n20 d =
      written_is settings op m n (value_at settings m v / 256 ^ k) (v ∷ []) e
      (λ i l. taken op sign_fill (digits_of settings m (v ∷ [])) i n20
      ∙ rw (d, one_source) (entry v.size (value_at settings m v) (k + i) h ∙ sym (digit-div (value_at settings m v) k i)))

  -- a move of a whole varnode
  pub moved_whole : eqb op.opcode 20 ≡ false → dropped op ≡ 0 → bytes_written settings op n (v ∷ []) m ≡ bytes_of (big_endian settings) n (value_at settings m v)
  moved_whole n20 d = moved_from 0 n20 d ∙ ap (bytes_of (big_endian settings) n) (div-one (value_at settings m v))

  -- SUBPIECE: n bytes are written of the number that is left
  pub moved-part : (k : ℕ) → eqb op.opcode 20 ≡ false → dropped op ≡ k
      → bytes_written settings op n (v ∷ []) m ≡ bytes_of (big_endian settings) n (value_at settings m v / 256 ^ k % 256 ^ n)
  moved-part k n20 d = moved_from k n20 d ∙ bytes_mod (big_endian settings) n (value_at settings m v / 256 ^ k)

  -- INT_SEXT
  pub moved_extended : op.opcode ≡ 20 → 1 ≤ v.size → v.size < n
      → bytes_written settings op n (v ∷ []) m ≡ bytes_of (big_endian settings) n (int_sext n v.size (value_at settings m v))
  unfolding sign_fill
  moved_extended e20 some larger =
      written_is settings op m n (int_sext n v.size (value_at settings m v)) (v ∷ []) e
      (λ k l. extended op sign_fill (digits_of settings m (v ∷ [])) k e20
      ∙ rw (one_source, bytes-length, entry v.size (value_at settings m v) k h, entry v.size (value_at settings m v) (v.size - 1) h)
      (sym (sext_digit n v.size (value_at settings m v) some larger h k l)))

-- PIECE: u above v
module _ (settings : Settings) (op : Operation) (m : Memory) (u v : Varnode) (b : OfBytes m) where
  abbrev x : ℕ
  x = value_at settings m u

  abbrev y : ℕ
  y = value_at settings m v

  two_sources : digits_of settings m (v ∷ u ∷ []) ≡ bytes_of false v.size y ++ bytes_of false u.size x
  unfolding digits_of
  two_sources =
      ap (λ (ds : List ℕ). digits_at settings m v ++ ds) (append-nil (digits_at settings m u)) ∙ rw (digits_of_lem settings m u b, digits_of_lem settings m v b) refl

  pub moved_both : (n : ℕ) → moves op ≡ true → eqb op.opcode 20 ≡ false → dropped op ≡ 0 → x < 256 ^ u.size → y < 256 ^ v.size
      → bytes_written settings op n (v ∷ u ∷ []) m ≡ bytes_of (big_endian settings) n (x * 256 ^ v.size + y)
  moved_both n e n20 d hu hv =
      written_is settings op m n (x * 256 ^ v.size + y) (v ∷ u ∷ []) e
      (λ k l. taken op sign_fill (digits_of settings m (v ∷ u ∷ [])) k n20
      ∙ rw (d, zero-add k, two_sources) (joined_at (bytes_of false v.size y) (bytes_of false u.size x) k ∙ rw bytes-length (by k (ltb k v.size) refl) ∙ sym (digit_joined v.size x y hv k)))
    where
      by : (k : ℕ) (t : Bool) → ltb k v.size ≡ t
          → cond t (get_or (bytes_of false v.size y) k 0) (get_or (bytes_of false u.size x) (k - v.size) 0) ≡ cond t (digit 256 y k) (digit 256 x (k - v.size))
      by k true q = entry v.size y k hv
      by k false q = entry u.size x (k - v.size) hu
