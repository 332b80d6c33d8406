use Rattle.json_expressions.proofs.named.read_named_parts.Goals as goal

pub returns-in-Swizzle : goal.returns-in-Swizzle
returns-in-Swizzle c = rw c.in-Swizzle.is c.read_form-in-Swizzle.ensures

pub returns-in-ImageSample : goal.returns-in-ImageSample
returns-in-ImageSample c = rw c.in-ImageSample.is c.read_form-in-ImageSample.ensures

pub returns-in-Relational : goal.returns-in-Relational
returns-in-Relational c = rw c.in-Relational.is c.read_form-in-Relational.ensures

pub returns-in-As : goal.returns-in-As
returns-in-As c = rw c.in-As.is c.read_form-in-As.ensures
