-- A proof that the answers of a table rise strictly. A reader of the contracts may skip this file.
-- It is here because each finder cites it for the law of the trait Finder that its list rises, and
-- such a law may cite only files of specs/.
use Rattle.std.proofs.lemmas.List.Kept.{AllPairs-cons}
use Rattle.std.proofs.Common.{◌≡◌, Bool, true, false, ◌&&◌, List, [], ◌∷◌, map, All, arith}
use Rattle.std.specs.Prelude.{AllPairs, T}
use Rattle.std.specs.FinMap.{entries_sorted}
use Rattle.std.specs.FinMap.Entries.{below_all, is_sorted}
use Rattle.std.specs.Ordering.{MatchOrdering, is_lt}
use Rattle.std.specs.declared.cmp.Ordering.{Ordering}
use Rattle.std.specs.declared.cmp.Ordering.TheVariants.{Less, Equal, Greater}
use Rattle.std.proofs.lemmas.List.Elements.{All-cons, All-nil}
use Rattle.olr_keys.specs.AnswersOf.{answers_of, by_key}
use Rattle.olr_keys.specs.Key.{KeyValue, IsBefore}
use Rattle.olr_keys.specs.Order.{compared_by}
use Rattle.olr_keys.specs.Table.{Penalties}

-- ---- the keys of a map in their order

both : (a b : Bool) → T (a && b) → T a × T b
both true b are = (tt, are)
both false b are = absurd are

is_less : (a b : KeyValue) (result : Ordering) → T (is_lt result)
    → MatchOrdering result (IsBefore a b) (a ≡ b) (IsBefore b a) → IsBefore a b
is_less a b Less less before = before
is_less a b Equal less same = absurd less
is_less a b Greater less after = absurd less

all_after : (key : KeyValue) (entries : List (KeyValue × Unit {0}))
    → T (below_all by_key key entries) → All (IsBefore key) (map (λ e. e.0) entries)
all_after key [] below = All-nil (IsBefore key)
all_after key (entry ∷ entries) below =
    let (first, later) = both _ _ below in
    All-cons (IsBefore key) entry.0 _ (is_less _ _ _ first (compared_by key entry.0))
    (all_after key entries later)

in_order : (entries : List (KeyValue × Unit {0})) → T (is_sorted by_key entries)
    → AllPairs IsBefore (map (λ e. e.0) entries)
in_order [] sorted = λ i j d below inside. absurd (omega arith)
in_order (entry ∷ entries) sorted =
    let (first, later) = both _ _ sorted in
    AllPairs-cons IsBefore entry.0 _ (all_after entry.0 entries first) (in_order entries later)

pub answers_rise : (penalties : Penalties) → AllPairs IsBefore (answers_of penalties)
unfolding answers_of
answers_rise penalties = in_order _ (entries_sorted _)
