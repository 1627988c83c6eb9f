use Rattle.f3_natures.proofs.objects.common_of.Goals as goal

pub returns : goal.returns
returns c = cc
