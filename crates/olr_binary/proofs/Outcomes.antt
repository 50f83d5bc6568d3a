-- A text has one refusal at most.
use Rattle.olr_binary.proofs.Common.{◌≡◌, ℕ, ◌<◌, ◌≤◌, List, length, refl, subst, arith, inl, inr, ints, Coordinates, Refused, TooLong, NotBase64, Empty, BadVersion, OtherKind, PoiWithAccess, BadLength, TooManyPoints, OffsetFlags, OutOfRange, Area, GeoCoordinate, IsFirstPlace, order_of, BytesCondition, Refuses, RefusesBytes, IsFirstOutOfRange, IsBase64}
use Rattle.olr_binary.proofs.Base64.{base64_is_one}
use Rattle.olr_binary.proofs.Layouts.{layout_is_one}

-- ---- one refusal

pub first_place_is_one : {bytes : List ℕ} {a b : Coordinates} → IsFirstPlace bytes a
    → IsFirstPlace bytes b → a ≡ b
first_place_is_one {bytes} {a} {b} p q =
    let lon : a.lon ≡ b.lon = omega (arith, ints) in
    let lat : a.lat ≡ b.lat = omega (arith, ints) in
    λ i. record { lon = lon i; lat = lat i }

-- no earlier point is beyond the ranges
not_before : (bytes : List ℕ) (i j : ℕ) → IsFirstOutOfRange bytes i → IsFirstOutOfRange bytes j
    → i < j → ⊥
not_before bytes i j p q lt = grind (arith, first_place_is_one)

beyond_is_one : (bytes : List ℕ) (i j : ℕ) → IsFirstOutOfRange bytes i → IsFirstOutOfRange bytes j
    → i ≡ j
beyond_is_one bytes i j p q = omega (arith, not_before bytes i j p q, not_before bytes j i q p)

not_both_kinds : (bytes : List ℕ) → BytesCondition bytes (OtherKind Area)
    → BytesCondition bytes (OtherKind GeoCoordinate) → ⊥
not_both_kinds bytes (inl area) q = omega arith
not_both_kinds bytes (inr neither) q = omega arith

-- two refusals of one place in the order whose conditions hold are one
same_order : (bytes : List ℕ) (e f : Refused) → order_of e ≡ order_of f → BytesCondition bytes e
    → BytesCondition bytes f → e ≡ f
same_order bytes TooLong f r p q = absurd p
same_order bytes NotBase64 f r p q = absurd p
same_order bytes Empty Empty r p q = refl
same_order bytes (BadVersion v) (BadVersion w) r p q = cc
same_order bytes (OtherKind Area) (OtherKind Area) r p q = refl
same_order bytes (OtherKind GeoCoordinate) (OtherKind GeoCoordinate) r p q = refl
same_order bytes (OtherKind Area) (OtherKind GeoCoordinate) r p q =
    absurd (not_both_kinds bytes p q)
same_order bytes (OtherKind GeoCoordinate) (OtherKind Area) r p q =
    absurd (not_both_kinds bytes q p)
same_order bytes PoiWithAccess PoiWithAccess r p q = refl
same_order bytes (BadLength m) (BadLength n) r p q = cc
same_order bytes (TooManyPoints c) (TooManyPoints d) r p q = grind (arith, layout_is_one)
same_order bytes OffsetFlags OffsetFlags r p q = refl
same_order bytes (OutOfRange m) (OutOfRange n) r p q = cc (beyond_is_one bytes p.0 q.0 p.6 q.6)
same_order bytes e f r p q = absurd (omega arith)

bytes_refusal_is_one : (bytes : List ℕ) (e f : Refused) → RefusesBytes bytes e
    → RefusesBytes bytes f → e ≡ f
bytes_refusal_is_one bytes e f p q = grind (arith, same_order)

-- the refusal of a text is one
pub refusal_is_one : (text : List ℕ) (e f : Refused) → Refuses text e → Refuses text f → e ≡ f
refusal_is_one text TooLong TooLong p q = refl
refusal_is_one text TooLong f p q = absurd (omega arith)
refusal_is_one text e TooLong p q = absurd (omega arith)
refusal_is_one text NotBase64 NotBase64 p q = refl
refusal_is_one text NotBase64 f p q = absurd (p.1 q.1 q.2)
refusal_is_one text e NotBase64 p q = absurd (q.1 p.1 p.2)
refusal_is_one text e f p q =
    bytes_refusal_is_one p.1 e f p.3 (rw (base64_is_one text p.1 q.1 p.2 q.2) q.3)

-- a text of bytes for which no condition holds has none
pub not_refused : (text bytes : List ℕ) (e : Refused) → length text ≤ 344 → IsBase64 text bytes
    → ((e : Refused) → BytesCondition bytes e → ⊥) → Refuses text e → ⊥
not_refused text bytes TooLong short b none h = omega arith
not_refused text bytes NotBase64 short b none h = h.1 bytes b
not_refused text bytes e short b none h =
    none e (subst (λ (bs : List ℕ). BytesCondition bs e) (base64_is_one text h.1 bytes h.2 b)
    h.3.holds)
