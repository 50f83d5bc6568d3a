-- The checks on a record of the file of bans: what a record passes whose fields were read, and that
-- one that spells a ban passes all.
use Rattle.olr_map.proofs.Common.{arith, AllPass, Ban, Stop, AllDiffer, RoadLine, line_ids, NamesLines, bans_table, IsSettled, StopsAfter, fields_of, SpellsIds, wrong_row, unknown, apart, ◌≡◌, ℕ, ◌+◌, ◌<◌, List, length, inl, inr, refl, NamesUnknownLine, StopsBan}
use Rattle.olr_map.proofs.Checked.{stops_at_error, stops_later, stops_unread}
use Rattle.olr_map.proofs.OneBan.{named_known, named_once, ban_once}
use Rattle.olr_map.proofs.OneTable.{IsLawful}

-- a line that a record names is known
no_unknown : {lines : List RoadLine} {fields : List (List ℕ)} {ban : Ban}
    → NamesLines lines fields ban → NamesUnknownLine lines fields → ⊥
no_unknown named either = elim either [
  | inl from ↦ named_known 0 named.from from
  | inr to ↦ named_known 1 named.to to
]

-- a record that spells two ids, and one that names two lines
ids_pass : (lines : List RoadLine) {fields : List (List ℕ)} {first second : ℕ}
    → SpellsIds fields first second → (n : ℕ) → AllPass (fields_of (bans_table lines) n fields)
ids_pass lines {first} {second} says n = grind arith

names_pass : {lines : List RoadLine} {fields : List (List ℕ)} {ban : Ban} → length fields ≡ 2
    → NamesLines lines fields ban → (n : ℕ) → AllPass (fields_of (bans_table lines) n fields)
names_pass {ban} two named n = grind arith

-- a record that is no ban
pub stops_at : (lines : List RoadLine) → AllDiffer (line_ids lines)
    → {bans : List Ban} {bad : List (List ℕ)} {stop : Stop} {before : ℕ} → length bans ≡ before
    → before < 200000
    → StopsBan lines bad (before + 1) stop → StopsAfter (bans_table lines) bans bad stop
stops_at lines differ size room (wrong_row error is e) = grind (arith, stops_at_error)
stops_at lines differ size room (unknown first second says either e) =
    rw e (stops_unread (bans_table lines) _ _ _ size room (ids_pass lines says)
    (λ repeat. no_unknown repeat.1 either) (inl (either, refl)))
stops_at lines differ size room (apart ban two named not_adjacent e) =
    rw e (stops_later (bans_table lines) _ _ _ _ size room (names_pass two named)
    (λ among. (ban, named, among)) (λ repeat. rw (← (named_once differ _ _ repeat.1 named))
    repeat.2) (inr (no_unknown named, inl ((ban, named, not_adjacent), refl))))

pub bans_settled : {lines : List RoadLine} → IsSettled (bans_table lines)
bans_settled = grind (arith, names_pass)

pub bans_lawful : (lines : List RoadLine) → AllDiffer (line_ids lines) → IsLawful (bans_table lines)
bans_lawful lines differ = record {
  row_once = ban_once differ;
  settled = bans_settled;
  new = λ before fields ban is repeat. rw (← (named_once differ _ _ repeat.1 is.named)) repeat.2;
  later = λ n fields ban is. (
    no_unknown is.named,
    (
      λ not_meeting. not_meeting.2 (rw (← (named_once differ _ _ is.named not_meeting.1))
          is.adjacent),
      tt,
    ),
  );
}
