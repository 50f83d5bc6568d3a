use Rattle.olr_why.proofs.Halving.{lower_half, upper_half}
use Rattle.olr_why.proofs.widening.part_of.Goals as goal

pub returns-in-NoMatching-clause-bracket : goal.returns-in-NoMatching-clause-bracket
returns-in-NoMatching-clause-bracket c road given reference name differ is trial =
    upper_half is c.requires.low c.requires.high differ (rw c.in-NoMatching.is at trial)

pub returns-in-Crowded-clause-bracket : goal.returns-in-Crowded-clause-bracket
returns-in-Crowded-clause-bracket c road given reference name differ is trial =
    lower_half is c.requires.low c.requires.high (rw c.in-Crowded.is at trial)

pub returns-in-Matching-clause-bracket : goal.returns-in-Matching-clause-bracket
returns-in-Matching-clause-bracket c road given reference name differ is trial =
    lower_half is c.requires.low c.requires.high (rw c.in-Matching.is at trial)
