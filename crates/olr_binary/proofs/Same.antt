-- Values whose types keep ranges are equal where their other fields are: a range has one proof at
-- most.
use Rattle.olr_binary.proofs.Common.{◌≡◌, ℕ, suc, ◌<◌, List, [], ◌∷◌, Option, Some, length, refl, ap, subst, arith, ℤ, slice_get, Next, Point}
use Rattle.std.proofs.Props.{props}
use Rattle.olr_base.specs.Range.{IsLongitude, IsLatitude}
use Rattle.olr_base.specs.declared.degrees.Degrees.{Degrees}

-- what is made of equal data, whatever the proofs are
made_same : {A D : Type 0} (P : A → Type 0) → ((x : A) → IsProp (P x)) → (make : (x : A) → P x → D)
    → (x y : A) (p : P x) (q : P y) → x ≡ y → make x p ≡ make y q
made_same P one make x y p q e =
    subst (λ z. (q : P z) → make x p ≡ make z q) e (λ q. ap (make x) (one x p q)) q

pub same_degrees : {a b : Degrees} → a.lon ≡ b.lon → a.lat ≡ b.lat → a ≡ b
same_degrees {a} {b} e f =
    made_same {A = ℤ × ℤ} (λ z. IsLongitude z.0 × IsLatitude z.1) (λ z. hlevel props)
    (λ z h. record { lon = z.0; lat = z.1; lon_in_range = h.0; lat_in_range = h.1 })
    (a.lon, a.lat) (b.lon, b.lat) (a.lon_in_range, a.lat_in_range)
    (b.lon_in_range, b.lat_in_range) (λ i. (e i, f i))

pub same_next : {a b : Next} → a.lowest ≡ b.lowest → a.interval ≡ b.interval → a ≡ b
same_next {a} {b} e f = made_same {A = ℕ × ℕ} (λ z. (z.0 < 8) × (z.1 < 256)) (λ z. hlevel props)
    (λ z h. record { lowest = z.0; interval = z.1; lowest_in_range = h.0; interval_in_range = h.1 })
    (a.lowest, a.interval) (b.lowest, b.interval) (a.lowest_in_range, a.interval_in_range)
    (b.lowest_in_range, b.interval_in_range) (λ i. (e i, f i))

pub same_point : {a b : Point} → a.at ≡ b.at → a.class ≡ b.class → a.form ≡ b.form
    → a.sector ≡ b.sector → a.next ≡ b.next → a ≡ b
same_point {a} {b} at class form sector next = made_same {A = Degrees × ℕ × ℕ × ℕ × Option Next}
    (λ f. (f.1 < 8) × (f.2 < 8) × (f.3 < 32)) (λ f. hlevel props)
    (λ f h. record {
      at = f.0;
      class = f.1;
      form = f.2;
      sector = f.3;
      next = f.4;
      class_in_range = h.0;
      form_in_range = h.1;
      sector_in_range = h.2;
    }) (a.at, a.class, a.form, a.sector, a.next) (b.at, b.class, b.form, b.sector, b.next)
    (a.class_in_range, a.form_in_range, a.sector_in_range)
    (b.class_in_range, b.form_in_range, b.sector_in_range)
    (λ i. (at i, class i, form i, sector i, next i))

-- lists are equal where they are so at each index
pub same_points : (xs ys : List Point) → length xs ≡ length ys
    → ((i : ℕ) (x y : Point) → slice_get xs i ≡ Some x → slice_get ys i ≡ Some y → x ≡ y) → xs ≡ ys
same_points [] [] len same = refl
same_points [] (y ∷ ys) len same = absurd (omega arith)
same_points (x ∷ xs) [] len same = absurd (omega arith)
same_points (x ∷ xs) (y ∷ ys) len same =
    let first : x ≡ y = same 0 x y refl refl in
    let others : xs ≡ ys = same_points _ _ (omega arith) (λ i. same (suc i)) in
    cc
