-- A list split at an element, and what two splits of one list have to do with one another.
use Rattle.olr_map.proofs.Common.{arith, ◌≡◌, List, [], ◌∷◌, ◌++◌, refl, AllZip}

-- The elements at which a list is split twice: either it is one split, or one part in front goes on
-- with the other's element.
pub data TwoSplits {A : Type 0} (front : List A) (x : A) (other : List A) (y : A) : Type 0 where
  one : front ≡ other → x ≡ y → TwoSplits front x other y
  before : (more : List A) → other ≡ front ++ x ∷ more → TwoSplits front x other y
  behind : (more : List A) → front ≡ other ++ y ∷ more → TwoSplits front x other y

-- one more element in front of both
deeper : {A : Type 0} (a b : A) (front : List A) (x : A) (other : List A) (y : A) → a ≡ b
    → TwoSplits front x other y → TwoSplits (a ∷ front) x (b ∷ other) y
deeper a b front x other y e (one same is) = one (cc) is
deeper a b front x other y e (before more is) = before more (cc)
deeper a b front x other y e (behind more is) = behind more (cc)

pub two_splits : {A : Type 0} (front : List A) (x : A) (rest : List A) (other : List A) (y : A)
    (others : List A) → front ++ x ∷ rest ≡ other ++ y ∷ others → TwoSplits front x other y
two_splits [] x rest [] y others e = one refl (cc)
two_splits [] x rest (b ∷ other) y others e = before other (cc)
two_splits (a ∷ front) x rest [] y others e = behind front (cc)
two_splits (a ∷ front) x rest (b ∷ other) y others e =
    deeper a b _ x _ y (cc) (two_splits front x rest other y others (cc))

-- ---- two lists place by place

-- one of the lists decides the other, where an element does
pub zip_once : {A B : Type 0} (R : A → B → Type 0) → ((x : A) (y z : B) → R x y → R x z → y ≡ z)
    → (xs : List A) (ys zs : List B) → AllZip R xs ys → AllZip R xs zs → ys ≡ zs
zip_once R once [] [] [] is other = refl
zip_once R once [] (y ∷ ys) zs is other = absurd is
zip_once R once (x ∷ xs) [] zs is other = absurd is
zip_once R once (x ∷ xs) (y ∷ ys) (z ∷ zs) is other =
    grind (arith, zip_once R once xs ys zs is.1 other.1)
zip_once R once _ _ _ is other = absurd other

-- the second list, split where the first one is
pub record ZipSplit {A B : Type 0} (R : A → B → Type 0) (front : List A) (x : A)
    (ys : List B) : Type 0 where
  pub before : List B
  pub at : B
  pub after : List B
  pub split : ys ≡ before ++ at ∷ after
  pub each : AllZip R front before
  pub holds : R x at

pub zip_split : {A B : Type 0} (R : A → B → Type 0) (front : List A) (x : A) (rest : List A)
    (ys : List B) → AllZip R (front ++ x ∷ rest) ys → ZipSplit R front x ys
zip_split R [] x rest (y ∷ ys) all =
    record { before = []; at = y; after = ys; split = refl; each = tt; holds = all.0 }
zip_split R (a ∷ front) x rest (y ∷ ys) all =
    let found = zip_split R front x rest ys all.1 in
    record {
      before = y ∷ found.before;
      at = found.at;
      after = found.after;
      split = cc;
      each = (all.0, found.each);
      holds = found.holds;
    }
zip_split R _ x rest _ all = absurd all
