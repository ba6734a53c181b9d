mod Unclean
mod PeekedImages
mod Peeked
mod OldDescriptorImages
mod OldDescriptor
