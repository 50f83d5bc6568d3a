-- Texts of ranks: in decimal, joined by dots.
use Rattle.std.proofs.lemmas.Grind.{common_steps}
use Rattle.std.proofs.Common.{◌≡◌, ℕ, ◌+◌, ◌-◌, ◌<◌, List, [], ◌∷◌, ◌++◌, length, get_or, Option, Some, None, sym, ap, ◌∙◌, append_assoc, append-nil, length-append, take, arith}
use Rattle.olr_keys.proofs.Common.{◌≢◌, decimal, MatchOption, take-suc, decimal_injective, All-tail, AreRanks, ranks_text, IsRank}
use Rattle.olr_keys.proofs.Lacking.{Lacks, IsCut, lacks_decimal, one_cut, not_cut}

lacks_rank : {rank : ℕ} → IsRank rank → Lacks 46 (decimal rank)
lacks_rank in_range = lacks_decimal (λ high. absurd (omega arith)) (omega arith)

tail : {most rank next : ℕ} {more : List ℕ} → AreRanks most (rank ∷ next ∷ more)
    → AreRanks (most - 1) (next ∷ more)
tail {rank} {next} {more} are =
    record {
      at_least = omega arith;
      at_most = omega arith;
      each =
          All-tail IsRank rank (next ∷ more) are.each;
    }

-- a text without a dot that isn't a rank isn't the text of ranks
pub no_ranks : {text : List ℕ} {most : ℕ} → Lacks 46 text
    → ((rank : ℕ) → IsRank rank → text ≢ decimal rank) → (more : List ℕ) → AreRanks most more
    → text ≢ ranks_text more
no_ranks lacks other [] are same = absurd (omega arith)
no_ranks lacks other (rank ∷ []) are same = other rank (are.each 0 0 (omega arith)) same
no_ranks lacks other (rank ∷ next ∷ more) are same = not_cut _ _ _ _ lacks same

-- ranks of which the first is written in one text and the others in another
pub record IsHead (most : ℕ) (piece rest more : List ℕ) : Type 0 where
  pub rank : ℕ
  pub others : List ℕ
  pub in_range : IsRank rank
  pub first : piece ≡ decimal rank
  pub later : rest ≡ ranks_text others
  pub are : AreRanks (most - 1) others

-- a text that has a dot is that of ranks only if the text before the dot is that of the first
pub head_of : (text piece rest : List ℕ) (most : ℕ) → IsCut 46 text piece rest → (more : List ℕ)
    → AreRanks most more → text ≡ ranks_text more → IsHead most piece rest more
head_of text piece rest most cut [] are same = absurd (omega arith)
head_of text piece rest most cut (rank ∷ []) are same =
    absurd (not_cut _ _ _ _ (lacks_rank (are.each 0 0 (omega arith))) (sym same ∙ cut.whole))
head_of text piece rest most cut (rank ∷ next ∷ more) are same =
    let in_range = are.each 0 0 (omega arith) in
    let parts = one_cut _ _ _ _ cut.lacks (lacks_rank in_range) (cc) in
    record {
      rank = rank;
      others = next ∷ more;
      in_range = in_range;
      first = parts.0;
      later =
          parts.1;
      are = tail are;
    }

-- ranks have one text
pub one_ranks : {most : ℕ} (a b : List ℕ) → AreRanks most a → AreRanks most b
    → ranks_text a ≡ ranks_text b → a ≡ b
one_ranks [] b are are' same = absurd (omega arith)
one_ranks (rank ∷ ranks) [] are are' same = absurd (omega arith)
one_ranks (rank ∷ []) (rank' ∷ []) are are' same =
    let in_range = are.each 0 0 (omega arith) in
    let in_range' = are'.each 0 0 (omega arith) in
    ap (λ n. n ∷ []) (decimal_injective _ _ (omega arith) (omega arith) same)
one_ranks (rank ∷ []) (rank' ∷ next' ∷ more') are are' same =
    absurd (not_cut _ _ _ _ (lacks_rank (are.each 0 0 (omega arith))) same)
one_ranks (rank ∷ next ∷ more) (rank' ∷ []) are are' same =
    absurd (not_cut _ _ _ _ (lacks_rank (are'.each 0 0 (omega arith))) (sym same))
one_ranks {most} (rank ∷ next ∷ more) (rank' ∷ next' ∷ more') are are' same =
    let in_range = are.each 0 0 (omega arith) in
    let in_range' = are'.each 0 0 (omega arith) in
    let parts = one_cut _ _ _ _ (lacks_rank in_range) (lacks_rank in_range') same in
    let first = decimal_injective _ _ (omega arith) (omega arith) parts.0 in
    let others =
    one_ranks {most = most - 1} _ _ (tail are) (tail are') parts.1 in
    cc

fewer : {most count : ℕ} {ranks : List ℕ} → AreRanks most ranks → most ≡ count
    → AreRanks count ranks
fewer are same = rw (← same) are

-- what one rank and a reading of the text after it give together, with the ranks that were there
-- before
pub joined : (found : Option (Unit {0})) {text piece rest : List ℕ} {rank : ℕ} {pushed : List ℕ}
    (old new : List ℕ)
    → IsCut 46 text piece rest → length old < 32 → IsRank rank → piece ≡ decimal rank
    → pushed ≡ old ++ rank ∷ []
    → MatchOption found ((more : List ℕ) → AreRanks (32 - length pushed) more
    → rest ≢ ranks_text more)
    (λ _. (more : List ℕ) × AreRanks (32 - length pushed) more × (rest ≡ ranks_text more)
    × (new ≡ pushed ++ more))
    → MatchOption found ((more : List ℕ) → AreRanks (32 - length old) more → text ≢ ranks_text more)
    (λ _. (more : List ℕ) × AreRanks (32 - length old) more × (text ≡ ranks_text more)
    × (new ≡ old ++ more))
joined None {rank} old new cut room in_range first push inner = λ more are same.
    let head = head_of _ _ _ _ cut _ are same in
    let one_more = ap length push ∙ length-append old (rank ∷ []) in
    inner head.others (fewer head.are (omega arith)) head.later
joined (Some unit) old new cut room in_range first push ([], are, same, whole) =
    absurd (omega arith)
joined (Some unit) {rest} {rank} old new cut room in_range first push
    (next ∷ more, are, same, whole) =
    grind (arith, length-append, rank, in_range, are, first, append_assoc)

-- the text of the ranks after the first one
abbrev pub later : List ℕ → List ℕ
later [] = []
later (rank ∷ ranks) = 46 ∷ decimal rank ++ later ranks

pub ranks_text-cons : (rank : ℕ) (ranks : List ℕ)
    → ranks_text (rank ∷ ranks) ≡ decimal rank ++ later ranks
ranks_text-cons rank [] = sym (append-nil (decimal rank))
ranks_text-cons rank (next ∷ ranks) = cc (ranks_text-cons next ranks)

pub later-push : (ranks : List ℕ) (rank : ℕ)
    → later (ranks ++ rank ∷ []) ≡ later ranks ++ (46 ∷ decimal rank)
later-push [] rank = cc (append-nil (decimal rank))
later-push (first ∷ ranks) rank =
    cc (later-push ranks rank, append_assoc (decimal first) (later ranks) (46 ∷ decimal rank))

pub later-next : (ranks : List ℕ) (i : ℕ) → i < length ranks
    → later (take (i + 1) ranks) ≡ later (take i ranks) ++ (46 ∷ decimal (get_or ranks i 0))
later-next ranks i inside = grind (arith, common_steps, take-suc, later-push)
