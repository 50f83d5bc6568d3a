-- Three texts have a map or a fault.
use Rattle.olr_map.proofs.Common.{RoadMap, nodes_table, lines_table, bans_table, IsFaultOfTable, ℕ, List, refl, known, HasOutcome, AreLinesAccepted}
use Rattle.olr_map.proofs.Checked.{of_file}
use Rattle.olr_map.proofs.NodeFaults.{nodes_settled}
use Rattle.olr_map.proofs.LineFaults.{lines_settled}
use Rattle.olr_map.proofs.BanFaults.{bans_settled}
use Rattle.olr_map.proofs.RecordOutcomes.{nodes_decided, lines_decided, bans_decided}
use Rattle.olr_map.proofs.Reported.{fault_within}
use Rattle.olr_map.proofs.Soundness.{nodes_are_sound, lines_are_sound, map_is_sound}
use Rattle.olr_map.proofs.TableOutcome.{table_outcome}

pub outcome : (nodes_text lines_text bans_text : List ℕ)
    → HasOutcome nodes_text lines_text bans_text
outcome nodes_text lines_text bans_text no_map no_fault =
    let texts = known nodes_text lines_text bans_text in
    table_outcome _ nodes_settled nodes_decided _ (λ nodes set.
    table_outcome _ (lines_settled) (lines_decided _) _ (λ lines is.
    let sound = nodes_are_sound set in
    let accepted : AreLinesAccepted texts.nodes texts.lines nodes lines = record {
      nodes_accepted = record { sound = sound; text = set };
      sound = lines_are_sound sound is;
      text = is;
    } in
    table_outcome _ (bans_settled) (bans_decided _) _ (λ bans its.
    let road : RoadMap = record { nodes = nodes; lines = lines; bans = bans } in
    no_map road (record {
      sound = map_is_sound _ _ _ _ set is its;
      nodes = set;
      lines = is;
      bans = its;
    })) (λ why its.
    let lies = of_file (bans_settled) _ its in
    no_fault why (
      lies.0,
      rw lies.1 (record {
        nodes = nodes;
        lines = lines;
        accepted = accepted;
        text = fault_within (IsFaultOfTable (bans_table lines)) texts.bans _ refl its;
      }),
    ))) (λ why its.
    let lies = of_file (lines_settled) _ its in
    no_fault why (
      lies.0,
      rw lies.1 (record {
        nodes = nodes;
        accepted = record { sound = nodes_are_sound set; text = set };
        text = fault_within (IsFaultOfTable (lines_table nodes)) texts.lines _ refl its;
      }),
    ))) (λ why its.
    let lies = of_file nodes_settled _ its in
    no_fault why (
      lies.0,
      rw lies.1 (fault_within (IsFaultOfTable nodes_table) texts.nodes _ refl its),
    ))
