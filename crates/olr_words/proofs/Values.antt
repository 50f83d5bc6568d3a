-- What is left to check of options, while they are checked one after the other.
use Rattle.std.proofs.Common.{◌+◌, ◌<◌, ℕ, Bor, get_or, subst, refl, List, ◌++◌, length, drop, Option, Some, None}
use Rattle.std.specs.Prelude.{All, IfSome}
use Rattle.std.specs.List.{cons_option, flat_map}
use Rattle.std.proofs.lemmas.List.{at_drop_more, drop_at, take_at}
use Rattle.std.proofs.lemmas.List.Elements.{All-append, All-cons, All-drop, All-head, All-tail, All-take}
use Rattle.olr_words.specs.Options.{RecordOption}
use Rattle.olr_words.specs.RecordCommand.{record_option, record_options}
use Rattle.olr_words.specs.declared.options.CommandOption.{CommandOption}
use Rattle.olr_words.proofs.RecordOptions.{no_option}

-- all have a property as soon as these have it
pub record Remain {X : Type 0} (P : X → Type 0) (all left : List X) : Type 0 where
  pub forth : All P left → All P all
  pub back : All P all → All P left

pub one_passed : {X : Type 0} (P : X → Type 0) (all rest : List X) (o : Option X)
    → Remain P all (cons_option o rest) → IfSome o P → Remain P all rest
one_passed P all rest None left is = left
one_passed P all rest (Some x) left is = record {
  forth = λ h. left.forth (All-cons P x rest is h);
  back = λ h. All-tail P x rest (left.back h);
}

pub one_failed : {X : Type 0} (P : X → Type 0) (all rest : List X) (o : Option X)
    → Remain P all (cons_option o rest) → (IfSome o P → ⊥) → ¬ (All P all)
one_failed P all rest None left fails = λ h. fails tt
one_failed P all rest (Some x) left fails = λ h. fails (All-head P x rest (left.back h))

pub many_passed : {X : Type 0} (P : X → Type 0) (all xs rest : List X)
    → Remain P all (xs ++ rest) → All P xs → Remain P all rest
many_passed P all xs rest left are = record {
  forth = λ h. left.forth (All-append P xs rest are h);
  back = λ h. subst (All P) (drop_at xs rest (length xs) refl)
      (All-drop P (length xs) (xs ++ rest) (left.back h));
}

pub many_failed : {X : Type 0} (P : X → Type 0) (all xs rest : List X)
    → Remain P all (xs ++ rest) → ¬ (All P xs) → ¬ (All P all)
many_failed P all xs rest left fail = λ h. fail (subst (All P) (take_at xs rest (length xs) refl)
    (All-take P (length xs) (xs ++ rest) (left.back h)))

-- ---- options, and groups of options

-- the options of groups
abbrev pub of_groups : List (Bor (List CommandOption)) → List RecordOption
of_groups groups = flat_map (λ group. record_options group.now) groups

module _ (P : RecordOption → Type 0) where
  left_at : (xs : List CommandOption) (i : ℕ) → i < length xs
      → Remain P (record_options xs) (record_options (drop i xs))
      → Remain P (record_options xs)
      (cons_option (record_option (get_or xs i no_option)) (record_options (drop (i + 1) xs)))
  left_at xs i less left =
      subst (Remain P (record_options xs)) (at_drop_more record_options xs i no_option less) left

  pub option_right : (xs : List CommandOption) (i : ℕ) → i < length xs
      → Remain P (record_options xs) (record_options (drop i xs))
      → IfSome (record_option (get_or xs i no_option)) P
      → Remain P (record_options xs) (record_options (drop (i + 1) xs))
  option_right xs i less left is = one_passed P (record_options xs) (record_options (drop (i + 1) xs))
      (record_option (get_or xs i no_option)) (left_at xs i less left) is

  pub option_wrong : (xs : List CommandOption) (i : ℕ) → i < length xs
      → Remain P (record_options xs) (record_options (drop i xs))
      → ¬ (IfSome (record_option (get_or xs i no_option)) P) → ¬ (All P (record_options xs))
  option_wrong xs i less left fails = one_failed P (record_options xs) (record_options (drop (i + 1) xs))
      (record_option (get_or xs i no_option)) (left_at xs i less left) fails

  groups_left_at : (xs : List (Bor (List CommandOption))) (i : ℕ) (d : Bor (List CommandOption))
      → i < length xs → Remain P (of_groups xs) (of_groups (drop i xs))
      → Remain P (of_groups xs) (record_options (get_or xs i d).now ++ of_groups (drop (i + 1) xs))
  groups_left_at xs i d less left =
      subst (Remain P (of_groups xs)) (at_drop_more of_groups xs i d less) left

  pub group_right : (xs : List (Bor (List CommandOption))) (i : ℕ) (d : Bor (List CommandOption))
      → i < length xs → Remain P (of_groups xs) (of_groups (drop i xs))
      → All P (record_options (get_or xs i d).now)
      → Remain P (of_groups xs) (of_groups (drop (i + 1) xs))
  group_right xs i d less left are = many_passed P (of_groups xs) (record_options (get_or xs i d).now)
      (of_groups (drop (i + 1) xs)) (groups_left_at xs i d less left) are

  pub group_wrong : (xs : List (Bor (List CommandOption))) (i : ℕ) (d : Bor (List CommandOption))
      → i < length xs → Remain P (of_groups xs) (of_groups (drop i xs))
      → ¬ (All P (record_options (get_or xs i d).now)) → ¬ (All P (of_groups xs))
  group_wrong xs i d less left fails = many_failed P (of_groups xs)
      (record_options (get_or xs i d).now) (of_groups (drop (i + 1) xs))
      (groups_left_at xs i d less left) fails
