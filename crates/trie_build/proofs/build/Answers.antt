use Rattle.trie_build.proofs.BuildSteps.{slips_built}
use Rattle.trie_build.proofs.build.Goals as goal

pub returns : goal.returns
returns c = search slips_built
