-- The first line feed of bytes, and what it shows of their first line.
use Rattle.std.proofs.Common.{◌≡◌, ◌≢◌, ℕ, ◌+◌, ◌<◌, ◌≤◌, List, ◌∷◌, ◌++◌, All, length, take, drop, get_or, slice_index, eqb-true, sym, ap, ◌∙◌, arith, eq-eqb, Some, None}
use Rattle.std.proofs.lemmas.List.{drop_more, take-append-drop, get_or_default, get_or-take, length-take, length-take-le}
use Rattle.memchr.specs.Find.{IsFirstByte, Nowhere, Passes, is_byte}
use Rattle.request_reader.specs.{Scripts.{IsLine, IsTooLong}, LineEnds.BeginsWithLine}

no_feed_in : (bytes : List ℕ) (n m : ℕ) → m ≤ n → Nowhere (Passes (is_byte 10) bytes) 0 n → All (λ b. b ≢ 10) (take m bytes)
no_feed_in bytes n m few nowhere k d less is =
    let size = length-take m bytes in
    let low : k < m = omega (arith, size, less) in
    let within : k < length bytes = omega (arith, size, less) in
    nowhere k (omega arith) (omega (arith, low, few)) (eq-eqb (slice_index bytes k) 10 (get_or_default bytes k 0 d within ∙ sym (get_or-take m bytes k d low) ∙ is))

pub feed_shows : (bytes : List ℕ) (n : ℕ) → IsFirstByte (is_byte 10) bytes (Some n) → n ≤ 4_096 → BeginsWithLine bytes n
feed_shows bytes n first few =
    let split : drop n bytes ≡ get_or bytes n 0 ∷ drop (n + 1) bytes = drop_more bytes n 0 first.0.high in
    let is : get_or bytes n 0 ≡ 10 = eqb-true (get_or bytes n 0) 10 first.1 in
    let size = length-take-le n bytes (omega (arith, first.0.high)) in
    record {
      line = take n bytes;
      rest = drop (n + 1) bytes;
      split = sym (ap (λ bs. take n bytes ++ bs) (ap (λ b. b ∷ drop (n + 1) bytes) (sym is) ∙ sym split) ∙ take-append-drop n bytes);
      counted = size;
      whole = record { no_feed = no_feed_in bytes n n (omega arith) first.0.before; short = omega (arith, size, few) };
    }

pub late_feed : (bytes : List ℕ) (n : ℕ) → IsFirstByte (is_byte 10) bytes (Some n) → 4_096 < n → IsTooLong bytes
late_feed bytes n first far =
    record { long = omega (arith, first.0.high, far); no_feed = no_feed_in bytes n 4_097 (omega (arith, far)) first.0.before }

no_feed : (bytes : List ℕ) → IsFirstByte (is_byte 10) bytes None → All (λ b. b ≢ 10) bytes
no_feed bytes nowhere k d less is = nowhere k (omega arith) less (eq-eqb (slice_index bytes k) 10 (get_or_default bytes k 0 d less ∙ is))

pub short_look : (bytes : List ℕ) → IsFirstByte (is_byte 10) bytes None → length bytes ≤ 4_096 → IsLine bytes
short_look bytes first few = record { no_feed = no_feed bytes first; short = few }

pub long_look : (bytes : List ℕ) → IsFirstByte (is_byte 10) bytes None → 4_096 < length bytes → IsTooLong bytes
long_look bytes first far = record { long = far; no_feed = no_feed_in bytes (length bytes) 4_097 (omega (arith, far)) first }
