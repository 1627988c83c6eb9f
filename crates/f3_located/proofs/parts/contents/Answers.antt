use Rattle.std.proofs.Common.{ap}
use Rattle.f3_data.specs.Stores.{path_of}
use Rattle.f3_data.specs.References.{reach_in}
use Rattle.f3_located.proofs.Parting.{contents_many, contents_some, contents_none}
use Rattle.f3_located.proofs.parts.contents.Goals as goal

pub returns-in-Many : goal.returns-in-Many
returns-in-Many c = λ here answers. contents_many _ _ _ here _ (ap (reach_in (path_of c.args.reference.path)) c.in-Many.is)

pub returns-in_ok-opened-in-Some : goal.returns-in_ok-opened-in-Some
returns-in_ok-opened-in-Some c = λ here answers.
    contents_some _ _ here _ _ (ap (reach_in (path_of c.args.reference.path)) c.in-One.is) c.in-Some.ensures c.in_ok-opened-in-Some.ensures

pub returns-in-None : goal.returns-in-None
returns-in-None c = λ here answers. contents_none _ here _ (ap (reach_in (path_of c.args.reference.path)) c.in-One.is) c.in-None.ensures
