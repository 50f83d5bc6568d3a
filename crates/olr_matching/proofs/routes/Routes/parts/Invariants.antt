use Rattle.std.proofs.Common.{◌≡◌, length}
use Rattle.olr_matching.proofs.Legs.{AreFirstLegs}
use Rattle.olr_matching.proofs.routes.Routes.parts.Given as goal

-- the legs so far
abbrev pub invariant-loop-layer : goal.invariant-loop-layer
invariant-loop-layer l = record {
  count : length l.legs.items ≡ l.layer;
  each : AreFirstLegs l.self.road l.self.layers l.ranks l.legs.items;
  same : l.self ≡ l.fn.self;
}
