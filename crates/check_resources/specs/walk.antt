-- What lemmas and private functions alone cite: the parts of lists, as the code goes through them.
pub mod ImageParts
