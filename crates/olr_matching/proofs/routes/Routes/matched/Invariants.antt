use Rattle.olr_matching.proofs.Common.{◌≡◌, take, AllZip, IsMatchedBy}
use Rattle.olr_matching.proofs.routes.Routes.matched.Given as goal

-- the parts of the keys so far
abbrev pub invariant-loop-key : goal.invariant-loop-key
invariant-loop-key l = record {
  all : AllZip (IsMatchedBy l.self.road l.self.layers) (take l.key-index l.keys) l.all.items;
  same : l.self ≡ l.fn.self;
}
