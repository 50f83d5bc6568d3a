use Rattle.olr_keys.proofs.Common.{◌≡◌, ℕ, ◌+◌, ◌<◌, ◌≤◌, List, [], ◌∷◌, ◌++◌, length, take, get_or, ap, ◌∙◌, arith, append_assoc, length-append, decimal, All, length-decimal-le, take_all, All-head, All-tail, AreRanks, ranks_text, IsRank}
use Rattle.olr_keys.proofs.RanksText.{later, later-next, ranks_text-cons}
use Rattle.olr_keys.proofs.ranks.push_ranks.Goals as goal

short : {rank : ℕ} → IsRank rank → length (decimal rank) ≤ 2
short {rank} in_range = length-decimal-le 2 rank (omega arith) (omega arith) (omega arith)

module _ {ranks others : List ℕ} {first : ℕ} (whole : ranks ≡ first ∷ others)
    (are : AreRanks 32 ranks) where
  each : All IsRank (first ∷ others)
  each = rw whole at are.each

  -- the length of the text of the first rank, and of the other ones
  short_first : {text : List ℕ} → text ≡ decimal first → length text ≤ 2
  short_first is = omega (arith, ap length is, short (All-head IsRank first others each))

  short_other : {text : List ℕ} {i : ℕ} → i < length others → text ≡ decimal (get_or others i 0)
      → length text ≤ 2
  short_other {text} {i} inside is =
      omega (arith, ap length is, short (All-tail IsRank first others each i 0 inside))

  fewer : length others ≤ 31
  fewer = omega (arith, ap length whole)

dotted : {new : List ℕ} (text : List ℕ) → (46 < 128 → new ≡ text ++ 46 ∷ [])
    → length new ≡ length text + 1
dotted text is = ap length (is (omega arith)) ∙ length-append text (46 ∷ [])

pub push_str-requires-in-loop-rank : goal.push_str-requires-in-loop-rank
push_str-requires-in-loop-rank c =
    let whole = c.in-Some.ensures.cases.0 in (
      omega arith,
      omega (
        arith,
        dotted _ c.push.ensures.ascii,
        short_first whole c.requires.ranks c.format.ensures.text,
        short_other whole c.requires.ranks
            c.loop-rank-test.true c.format-in-loop-rank.ensures.text,
        fewer whole c.requires.ranks,
      ),
    )

-- the text after a dot and the next rank
pushed : {one two : List ℕ} (text before piece others : List ℕ) (i : ℕ) → i < length others
    → text ≡ before ++ later (take i others) → (46 < 128 → one ≡ text ++ 46 ∷ [])
    → two ≡ one ++ piece → piece ≡ decimal (get_or others i 0)
    → two ≡ before ++ later (take (i + 1) others)
pushed text before piece others i inside is dot second rank =
    let first = dot (omega arith) in
    let next = later-next _ _ inside in
    let join = append_assoc text (46 ∷ []) piece in
    let join' = append_assoc before (later (take i others)) (46 ∷ piece) in cc

pub loop-rank-preserved : goal.loop-rank-preserved
loop-rank-preserved c =
    let whole = c.in-Some.ensures.cases.0 in record {
      text = pushed _ _ _
          _ _ c.loop-rank-test.true c.loop-rank.invariant.text c.push.ensures.ascii
          c.push_str-in-loop-rank.ensures.bytes
          c.format-in-loop-rank.ensures.text;
      at_most = omega (
        arith,
        dotted _ c.push.ensures.ascii,
        short_other whole c.requires.ranks
            c.loop-rank-test.true c.format-in-loop-rank.ensures.text,
      );
    }

all_pushed : {text start ranks : List ℕ} (old piece others : List ℕ) (first i : ℕ)
    → ranks ≡ first ∷ others → length others ≤ i → text ≡ start ++ later (take i others)
    → start ≡ old ++ piece → piece ≡ decimal first → text ≡ old ++ ranks_text ranks
all_pushed old piece others first i whole past is before rank =
    let all = take_all i others past in
    let cons = ranks_text-cons first others in
    let join = append_assoc old piece (later others) in cc

pub returns-clause-text : goal.returns-clause-text
returns-clause-text c = all_pushed _ _ _
    _ _ c.in-Some.ensures.cases.0 c.loop-rank-test.false c.loop-rank.invariant.text
    c.push_str.ensures.bytes c.format.ensures.text

pub returns-clause-at_most : goal.returns-clause-at_most
returns-clause-at_most c =
    let whole = c.in-Some.ensures.cases.0 in
    omega (
      arith,
      short_first whole c.requires.ranks c.format.ensures.text,
      fewer whole c.requires.ranks,
    )
